-- HOW THE MAP CHANGES: no pair changes, or that of one key.
use Rattle.std.proofs.Common.{◌≡◌, ◌≢◌, ℕ, ◌^◌, ◌<◌, List, length, ◌↔◌, inl, inr, sym, subst, ◌∙◌}
use Rattle.spec_node.specs.Key.{Begins, next_byte}
use Rattle.spec_node.specs.TableNode.{Child}
use Rattle.spec_node.specs.declared.child.Child.TheVariants.{Payload, Node as below_at}
use Rattle.spec_olc.specs.Calls.{bytes_of}
use Rattle.olc_state.specs.inner.World.{NodeMap}
use Rattle.olc_state.specs.inner.Tables.{IsPlaced, Keeps}
use Rattle.olc_state.proofs.Options.{some_same}
use Rattle.olc_state.proofs.Ways.{toward_leaf, leaf_entry}
use Rattle.olc_laws.proofs.Prefixes.{same_key, same_beginning}
use Rattle.olc_laws.proofs.Trees.{Tree, Pays, tree_of, keeps_pays, pays_keeps}

-- another place than this byte of this prefix
abbrev pub Elsewhere : List ℕ → ℕ → List ℕ → ℕ → Type 0
Elsewhere prefix byte p x = p ≡ prefix → x ≡ byte → ⊥

module _ {M : Type 0} where
  payloads_same : (v w : M) → let x : Child M = Payload v in let y : Child M = Payload w in x ≡ y → v ≡ w
  payloads_same v w e = cc

  payload_node : (v : M) (c : ℕ) → let x : Child M = Payload v in let y : Child M = below_at c in x ≡ y → ⊥
  payload_node v c e = cc

  -- each pair stays
  abbrev pub SamePairs : NodeMap M → NodeMap M → Type 0
  SamePairs t t' = (k : List ℕ) (v : M) → Keeps t k v ↔ Keeps t' k v

  -- each pair of another key stays
  abbrev pub OtherPairs : NodeMap M → NodeMap M → ℕ → Type 0
  OtherPairs t t' key = (o : ℕ) (w : M) → o < 2 ^ 64 → o ≢ key → Keeps t (bytes_of o) w ↔ Keeps t' (bytes_of o) w

  -- THE KEY GETS THIS VALUE
  pub record PutsPair (t t' : NodeMap M) (key : ℕ) (v : M) : Type 0 where
    pub here : Keeps t' (bytes_of key) v
    pub others : OtherPairs t t' key

  -- THE KEY IS REMOVED
  pub record TakesPair (t t' : NodeMap M) (key : ℕ) : Type 0 where
    pub gone : (v : M) → Keeps t' (bytes_of key) v → ⊥
    pub others : OtherPairs t t' key

  -- a key has one value
  pub kept_once : (t : NodeMap M) (root : ℕ) (k : List ℕ) (v w : M) → IsPlaced t root → Keeps t k v → Keeps t k w → v ≡ w
  kept_once t root k v w placed h g =
      elim (toward_leaf t root k placed h.slot g.slot h.leaf g.leaf h.linked g.linked h.begins g.begins g.full) [
        | inl same ↦ payloads_same v w (some_same (Payload v) (Payload w) (sym h.payload ∙ leaf_entry t root k placed h.slot h.leaf w g h.linked same))
        | inr on ↦ absurd (payload_node v on.slot (some_same (Payload v) (below_at on.slot) (sym h.payload ∙ on.entry_is)))
      ]

  -- all payloads are where they were
  abbrev pub SamePays : Tree M → Tree M → Type 0
  SamePays f f' = (p : List ℕ) (x : ℕ) (v : M) → Pays f p x v ↔ Pays f' p x v

  -- all payloads but one are where they were
  abbrev pub OtherPays : Tree M → Tree M → List ℕ → ℕ → Type 0
  OtherPays f f' prefix byte = (p : List ℕ) (x : ℕ) (v : M) → Elsewhere prefix byte p x → Pays f p x v ↔ Pays f' p x v

  keeps_again : (t t' : NodeMap M) (k : List ℕ) (v : M) (h : Keeps t k v) → (Pays (tree_of t) h.leaf.node.prefix (next_byte h.leaf.node.prefix k) v → Pays (tree_of t') h.leaf.node.prefix (next_byte h.leaf.node.prefix k) v)
      → Keeps t' k v
  keeps_again t t' k v h on = pays_keeps t' h.leaf.node.prefix k v h.full h.begins (on (keeps_pays t k v h))

  pub same_pairs : (t t' : NodeMap M) → SamePays (tree_of t) (tree_of t') → SamePairs t t'
  same_pairs t t' same k v = (
    (λ (h : Keeps t k v). keeps_again t t' k v h (same h.leaf.node.prefix (next_byte h.leaf.node.prefix k) v).0),
    (λ (h : Keeps t' k v). keeps_again t' t k v h (same h.leaf.node.prefix (next_byte h.leaf.node.prefix k) v).1),
  )

  module _ (t t' : NodeMap M) (prefix : List ℕ) (key : ℕ) (full : length prefix ≡ 7) (begins : Begins prefix (bytes_of key)) (small : key < 2 ^ 64)
      (other : OtherPays (tree_of t) (tree_of t') prefix (next_byte prefix (bytes_of key))) where
    elsewhere : (p : List ℕ) (o : ℕ) → length p ≡ 7 → Begins p (bytes_of o) → o < 2 ^ 64 → o ≢ key → Elsewhere prefix (next_byte prefix (bytes_of key)) p (next_byte p (bytes_of o))
    elsewhere p o long goes little far is byte =
        let also : Begins prefix (bytes_of o) = subst (λ z. Begins z (bytes_of o)) is goes in
        let same : next_byte prefix (bytes_of o) ≡ next_byte prefix (bytes_of key) = subst (λ z. next_byte z (bytes_of o) ≡ next_byte prefix (bytes_of key)) is byte in
        far (same_key prefix key o full begins also same small little)

    pub other_pairs : OtherPairs t t' key
    other_pairs o w little far = (
      (λ (h : Keeps t (bytes_of o) w). keeps_again t t' (bytes_of o) w h
          (other h.leaf.node.prefix (next_byte h.leaf.node.prefix (bytes_of o)) w (elsewhere h.leaf.node.prefix o h.full h.begins little far)).0),
      (λ (h : Keeps t' (bytes_of o) w). keeps_again t' t (bytes_of o) w h
          (other h.leaf.node.prefix (next_byte h.leaf.node.prefix (bytes_of o)) w (elsewhere h.leaf.node.prefix o h.full h.begins little far)).1),
    )

    pub puts_pair : (v : M) → Pays (tree_of t') prefix (next_byte prefix (bytes_of key)) v → PutsPair t t' key v
    puts_pair v pays = record { here = pays_keeps t' prefix (bytes_of key) v full begins pays; others = other_pairs }

    pub takes_pair : ((v : M) → Pays (tree_of t') prefix (next_byte prefix (bytes_of key)) v → ⊥) → TakesPair t t' key
    takes_pair gone = record {
      gone = λ v h.
          let one : h.leaf.node.prefix ≡ prefix = same_beginning h.leaf.node.prefix prefix (bytes_of key) h.begins begins (h.full ∙ sym full) in
          gone v (subst (λ z. Pays (tree_of t') z (next_byte z (bytes_of key)) v) one (keeps_pays t' (bytes_of key) v h));
      others = other_pairs;
    }
