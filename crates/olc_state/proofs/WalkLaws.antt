-- What a walk over the tree adds for each child of a node, and at its end.
use Rattle.std.proofs.Common.{◌≡◌, ℕ, zero, suc, ◌+◌, ◌-◌, ◌<◌, ◌≤◌, List, [], ◌∷◌, ◌++◌, length, slice_index_or, Option, Some, None, refl, ap, sym, subst, ◌∙◌, arith, append_assoc}
use Rattle.std.proofs.lemmas.List.{append-nil}
use Rattle.spec_map.specs.Map.{Pairs, lookup, between}
use Rattle.spec_map.proofs.MapLaws.{lookup-between_inside}
use Rattle.spec_map.proofs.RangeLaws.{between-all}
use Rattle.spec_node.specs.Key.{low}
use Rattle.spec_node.specs.TableNode.{TableNode, Child}
use Rattle.node_table.specs.Table.{NodeTable, node_at, pairs_in, pairs_under, pairs_of, pairs_at, IsChild, IsTree, IsSubtree}
use Rattle.node_table.specs.inner.Kinds.{mapped}
use Rattle.spec_node.specs.declared.child.Child.TheVariants.{Payload, Node}
use Rattle.node_table.proofs.KindLaws.{between-mapped}
use Rattle.node_table.proofs.TableLaws.{open_subtree, IsChild-found}
use Rattle.spec_olc.specs.Meaning.{in_some, child_of}
use Rattle.olc_state.specs.declared.stage.Stored.{Stored}
use Rattle.olc_state.specs.inner.Meant.{meant_node, meant_slots, meant_stored}
use Rattle.olc_state.specs.inner.Walks.{nodes_on, meant_nodes}
use Rattle.olc_state.proofs.Entries.{lookup-first}
use Rattle.olc_state.proofs.Options.{none_some}
use Rattle.olc_state.proofs.States.{meant_slot}
use Rattle.olc_state.proofs.Ways.{longer-begins}

module _ {X : Type 0} where
  -- the node of a slot, without its word and its place
  abbrev pub stored_node : Option (Stored X) → Option (TableNode X)
  stored_node None = None
  stored_node (Some n) = Some n.node

  pub node_on : (slots : List (Option (Stored X))) (s : ℕ) → node_at (nodes_on slots) s ≡ stored_node (slice_index_or slots s None)
  node_on [] s = refl
  node_on (None ∷ slots) zero = refl
  node_on (Some n ∷ slots) zero = refl
  node_on (None ∷ slots) (suc s) = node_on slots s
  node_on (Some n ∷ slots) (suc s) = node_on slots s

module _ {P M : Type 0} (meaning : P → M) (slots : List (Option (Stored P))) where
  meant_at : (s : ℕ) → node_at (meant_nodes meaning slots) s ≡ stored_node (in_some (meant_stored meaning) (slice_index_or slots s None))
  meant_at s = node_on (meant_slots meaning slots) s ∙ ap stored_node (meant_slot meaning slots s)

  pub stored_there : (s : ℕ) (n : Stored P) → Some n ≡ slice_index_or slots s None → Some (meant_node meaning n.node) ≡ node_at (meant_nodes meaning slots) s
  stored_there s n at = ap (λ x. stored_node (in_some (meant_stored meaning) x)) at ∙ sym (meant_at s)

  -- a slot that has a subtree isn't empty
  pub never_empty : (levels s : ℕ) → IsSubtree (meant_nodes meaning slots) levels s → None ≡ slice_index_or slots s None → ⊥
  never_empty zero s tree none = absurd tree.tree
  never_empty (suc levels) s tree none = none_some tree.tree.node (ap (λ x. stored_node (in_some (meant_stored meaning) x)) none ∙ sym (meant_at s) ∙ tree.tree.here)

  -- the children from a byte on, in what they mean
  pub children_meant : (n : TableNode P) (from byte : ℕ) (c : Child P) (rest : List (ℕ × Child P)) → between n.children from 256 ≡ (byte, c) ∷ rest
      → between (meant_node meaning n).children from 256 ≡ (byte, child_of meaning c) ∷ mapped (child_of meaning) rest
  children_meant n from byte c rest next = between-mapped (child_of meaning) n.children from 256 ∙ ap (mapped (child_of meaning)) next

  pub child_next : (n : TableNode P) (from byte : ℕ) (c : Child P) → between n.children from 256 ≡ (byte, c) ∷ between n.children (byte + 1) 256
      → between (meant_node meaning n).children from 256 ≡ (byte, child_of meaning c) ∷ between (meant_node meaning n).children (byte + 1) 256
  child_next n from byte c next =
      children_meant n from byte c (between n.children (byte + 1) 256) next
      ∙ ap (λ t. (byte, child_of meaning c) ∷ t) (sym (between-mapped (child_of meaning) n.children (byte + 1) 256))

  pub child_none : (n : TableNode P) (from : ℕ) → between n.children from 256 ≡ [] → between (meant_node meaning n).children from 256 ≡ []
  child_none n from none = between-mapped (child_of meaning) n.children from 256 ∙ ap (mapped (child_of meaning)) none

module _ {P M : Type 0} (meaning : P → M) where
  -- what the pairs of two lists mean
  pub mapped-append : (xs ys : Pairs P) → mapped meaning (xs ++ ys) ≡ mapped meaning xs ++ mapped meaning ys
  mapped-append [] ys = refl
  mapped-append (x ∷ xs) ys = ap (λ t. (x.0, meaning x.1) ∷ t) (mapped-append xs ys)

module _ {M : Type 0} (s : NodeTable M) where
  -- how many bytes a key has after the prefix of the slot's node
  abbrev left_in : Option (TableNode M) → ℕ
  left_in None = 0
  left_in (Some n) = 8 - length n.prefix

  abbrev pub left_at : ℕ → ℕ
  left_at slot = left_in (node_at s slot)

  module _ (levels slot : ℕ) (n : TableNode M) (tree : IsSubtree s levels slot) (here : Some n ≡ node_at s slot) where
    -- the next child of a node is in its subtree
    next_child : (from byte : ℕ) (c : Child M) (rest : List (ℕ × Child M)) → from ≤ byte → byte < 256 → between n.children from 256 ≡ (byte, c) ∷ rest
        → (less : ℕ) × (levels ≡ suc less) × IsChild (λ q j. IsTree s less q j) n.prefix byte c
    next_child from byte c rest at_least small next =
        let o = open_subtree s levels slot n tree here in
        let found : lookup n.children byte ≡ Some c = sym (lookup-between_inside n.children from 256 byte at_least small) ∙ ap (λ es. lookup es byte) next ∙ lookup-first (byte, c) rest in
        (o.less, o.is, IsChild-found s o.less n.prefix n.children byte c o.children found)

    -- payloads are in leaves
    pub next_payload : (from byte : ℕ) (v : M) (rest : List (ℕ × Child M)) → from ≤ byte → byte < 256 → between n.children from 256 ≡ (byte, Payload v) ∷ rest → length n.prefix ≡ 7
    next_payload from byte v rest at_least small next = (next_child from byte (Payload v) rest at_least small next).2

    -- the subtree of a node below, which has a longer prefix
    pub record GoesDown (j : ℕ) : Type 0 where
      pub less : ℕ
      pub tree_below : IsSubtree s less j
      pub shorter : left_at j < left_at slot

    child_left : (l j b : ℕ) → length n.prefix ≤ 7 → IsTree s l (n.prefix ++ b ∷ []) j → left_at j < left_at slot
    child_left zero j b short h = absurd h
    child_left (suc l) j b short h =
        let long = longer-begins n.prefix h.node.prefix b h.begins in
        rw (h.here, ← here) (omega (arith, long, short))

    pub next_node : (from byte j : ℕ) (rest : List (ℕ × Child M)) → from ≤ byte → byte < 256 → between n.children from 256 ≡ (byte, Node j) ∷ rest → GoesDown j
    next_node from byte j rest at_least small next =
        let o = open_subtree s levels slot n tree here in
        let c = next_child from byte (Node j) rest at_least small next in
        record {
          less = c.0;
          tree_below = record { above = n.prefix ++ byte ∷ []; tree = c.2 };
          shorter = child_left c.0 j byte o.sound.short c.2;
        }

module _ {P M : Type 0} (meaning : P → M) (s : NodeTable M) where
  -- a list got these pairs at its end, in what they mean
  abbrev Adds : Pairs M → Pairs P → Pairs P → Type 0
  Adds m old new = mapped meaning new ≡ mapped meaning old ++ m

  adds_join : (m n : Pairs M) (old mid new : Pairs P) → Adds m old mid → Adds n mid new → Adds (m ++ n) old new
  adds_join m n old mid new a b = b ∙ ap (λ t. t ++ n) a ∙ append_assoc (mapped meaning old) m n

  -- the pairs under the bytes before one were added, and those from it on are left
  pub record PartAdded (less slot : ℕ) (n : TableNode M) (from : ℕ) (old new : Pairs P) : Type 0 where
    pub before : Pairs M
    pub whole : pairs_at s (suc less) slot ≡ before ++ pairs_of (λ j. pairs_at s less j) n.prefix (between n.children from 256)
    pub adds : mapped meaning new ≡ mapped meaning old ++ before

  module _ (less slot : ℕ) (n : TableNode M) where
    pub part_start : IsSubtree s (suc less) slot → Some n ≡ node_at s slot → (old : Pairs P) → PartAdded less slot n 0 old old
    part_start tree here old =
        let o = open_subtree s (suc less) slot n tree here in
        let all : between n.children 0 256 ≡ n.children = between-all 0 256 0 256 n.children o.sound.ordered (omega arith) (omega arith) in
        record {
          before = [];
          whole = ap (λ x. pairs_in (λ j. pairs_at s less j) x) (sym here) ∙ ap (λ es. pairs_of (λ j. pairs_at s less j) n.prefix es) (sym all);
          adds = sym (append-nil (mapped meaning old));
        }

    part_next : (from byte : ℕ) (c : Child M) (old mid new : Pairs P) → PartAdded less slot n from old mid → between n.children from 256 ≡ (byte, c) ∷ between n.children (byte + 1) 256
        → Adds (pairs_under (λ j. pairs_at s less j) n.prefix byte c) mid new → PartAdded less slot n (byte + 1) old new
    part_next from byte c old mid new part next adds =
        let here : Pairs M = pairs_under (λ j. pairs_at s less j) n.prefix byte c in
        let rest : Pairs M = pairs_of (λ j. pairs_at s less j) n.prefix (between n.children (byte + 1) 256) in
        record {
          before = part.before ++ here;
          whole = part.whole ∙ ap (λ es. part.before ++ pairs_of (λ j. pairs_at s less j) n.prefix es) next ∙ sym (append_assoc part.before here rest);
          adds = adds_join part.before here old mid new part.adds adds;
        }

    module _ (tree : IsSubtree s (suc less) slot) (here : Some n ≡ node_at s slot) (from byte : ℕ) (at_least : from ≤ byte) (small : byte < 256) (old mid new : Pairs P) (part : PartAdded less slot n from old mid) where
      pub part_payload : (v : M) (share : P) (key : ℕ) → between n.children from 256 ≡ (byte, Payload v) ∷ between n.children (byte + 1) 256 → key ≡ low (n.prefix ++ byte ∷ [])
          → meaning share ≡ v → new ≡ mid ++ (key, share) ∷ [] → PartAdded less slot n (byte + 1) old new
      part_payload v share key next key_is means is =
          let one_more : (key, meaning share) ≡ (low (n.prefix ++ byte ∷ []), v) = cc in
          part_next from byte (Payload v) old mid new part next
          (ap (mapped meaning) is ∙ mapped-append meaning mid ((key, share) ∷ []) ∙ ap (λ e. mapped meaning mid ++ e ∷ []) one_more)

      pub part_node : (j : ℕ) → between n.children from 256 ≡ (byte, Node j) ∷ between n.children (byte + 1) 256
          → ((l : ℕ) → IsSubtree s (suc l) j → mapped meaning new ≡ mapped meaning mid ++ pairs_at s (suc l) j) → PartAdded less slot n (byte + 1) old new
      part_node j next adds = part_next from byte (Node j) old mid new part next (go less below)
        where
          below : IsTree s less (n.prefix ++ byte ∷ []) j
          below =
              let c = next_child s (suc less) slot n tree here from byte (Node j) (between n.children (byte + 1) 256) at_least small next in
              let same : c.0 ≡ less = omega (arith, c.1) in
              subst (λ l. IsTree s l (n.prefix ++ byte ∷ []) j) same c.2

          go : (l : ℕ) → IsTree s l (n.prefix ++ byte ∷ []) j → Adds (pairs_at s l j) mid new
          go zero h = absurd h
          go (suc l) h = adds l (record { above = n.prefix ++ byte ∷ []; tree = h })

    pub part_end : (from : ℕ) (old new : Pairs P) → PartAdded less slot n from old new → between n.children from 256 ≡ [] → mapped meaning new ≡ mapped meaning old ++ pairs_at s (suc less) slot
    part_end from old new part none =
        let all : pairs_at s (suc less) slot ≡ part.before =
        part.whole ∙ ap (λ es. part.before ++ pairs_of (λ j. pairs_at s less j) n.prefix es) none ∙ append-nil part.before in
        part.adds ∙ ap (λ m. mapped meaning old ++ m) (sym all)
