-- WRITES AT THE PARENT of a call's node, over the table: what the call knows before and what is written there make
-- a growth of a leaf, a growth of an inner node, or a split.
use Rattle.std.proofs.Common.{Bool, ◌≡◌, ℕ, ◌^◌, ◌<◌, ◌≤◌, List, [], ◌∷◌, ◌++◌, length, get_or, Option, Some, None, inl, inr, refl, sym, subst, ap, ◌∙◌, arith}
use Rattle.std.proofs.lemmas.Bool.{cases_lt}
use Rattle.std.proofs.lemmas.Bool.Decides.{eqb_tells}
use Rattle.spec_node.specs.Key.{Begins, next_byte}
use Rattle.spec_node.specs.TableNode.{TableNode, Child}
use Rattle.spec_node.specs.declared.child.Child.TheVariants.{Payload, Node as below_at}
use Rattle.spec_olc.specs.Calls.{key_of}
use Rattle.spec_olc.specs.Lock.{IsFree}
use Rattle.olc_state.specs.declared.stage.Task.{Task}
use Rattle.olc_state.specs.declared.tail.Large.TheVariants.{GrowLeaf, GrowInner, Split}
use Rattle.olc_state.specs.declared.tail.NodePair.{NodePair}
use Rattle.olc_state.specs.inner.Tables.{byte_at, IsIn, IsBelow, IsPlaced, Keeps}
use Rattle.olc_state.specs.inner.Tails.{one_more}
use Rattle.olc_state.specs.inner.TailFacts.{IsFork, IsPrivateOf, AreHeld, HasLeaf, HasCopy, HasMiddle, AtPair, grown_by, found, stores}
use Rattle.olc_state.specs.inner.TailFacts as spec
use Rattle.olc_state.specs.inner.Tasks.{key_bytes}
use Rattle.olc_state.specs.inner.World.{PlacedNode, NodeMap, is_private, is_linked, is_detached}
use Rattle.olc_state.proofs.Options.{some_same}
use Rattle.olc_state.proofs.Ways.{longer-begins, get_or-begins, absent_here, absent_mismatch}
use Rattle.olc_laws.proofs.Effects.{OthersStay}
use Rattle.olc_laws.proofs.Growing.{Swaps, GrowsLeaf, GrowsInner}
use Rattle.olc_laws.proofs.Prefixes.{byte_after, begins_before}
use Rattle.olc_laws.proofs.Splitting.{IsMiddle, middle_of, Splits}
use Rattle.olc_laws.proofs.Writing.{answered, WritesBelow}
use Rattle.olc_write.proofs.Deciding.{held_locked}
use Rattle.olc_write.proofs.Linked.{made_leaf, made_published}

pub new_free : (word : ℕ) → word ≡ 0 → IsFree word
new_free word e = omega (arith, e)

-- a prefix after which two lists go on differently is longer than one after which they go on alike
forks_after : (a prefix p k : List ℕ) → Begins a k → Begins (a ++ next_byte a k ∷ []) p → IsFork prefix p k → length a < length prefix
forks_after a prefix p k on also fork =
    elim (cases_lt (length a) (length prefix)) [
      | inl less ↦ less
      | inr more ↦
          let start : Begins a p = begins_before a (next_byte a k) p also in
          absurd (elim (eqb_tells (length prefix) (length a)) [
            | inl even ↦
                let one : next_byte a p ≡ next_byte a k = byte_after a (next_byte a k) p also in
                fork.apart (subst (λ (n : ℕ). get_or p n 0 ≡ get_or k n 0) (sym even.1) one)
            | inr odd ↦
                let inside : length prefix < length a = omega (arith, more, odd.1) in
                fork.apart (sym (get_or-begins a p (length prefix) start inside) ∙ get_or-begins a k (length prefix) on inside)
          ])
    ]

module _ {M : Type 0} where
  -- a node of this call is linked
  abbrev pub BecomesLinked : NodeMap M → NodeMap M → ℕ → Type 0
  BecomesLinked t t' s = (c : PlacedNode M) → t s ≡ Some c → t' s ≡ Some (record c { lifetime = is_linked })

  -- the parent has another node below
  abbrev pub LeadsNow : NodeMap M → ℕ → PlacedNode M → List ℕ → ℕ → Type 0
  LeadsNow t' p a k new = t' p ≡ Some (answered a (byte_at a k) (Some (below_at new)))

  module _ (Granted : Type 0) (same : M → M → Bool) (t t' : NodeMap M) (root : ℕ) (task : Task M) (pair : NodePair) (placed : IsPlaced t root) (small : key_of task.outline < 2 ^ 64) where
    abbrev key : ℕ
    key = key_of task.outline

    abbrev p : ℕ
    p = pair.above.slot

    abbrev q : ℕ
    q = pair.here.slot

    -- the parent leads to another node now
    pub parent_writes : (new : ℕ) (held : AreHeld t pair (key_bytes task)) → LeadsNow t' p held.above.node (key_bytes task) new → WritesBelow t t' p key held.above.node (Some (below_at new))
    parent_writes new held after = record {
      here = held.above.linked;
      locked = held_locked held.above.node.word pair.above.word held.above.word held.above.free;
      begins = held.over.way held.above.node held.above.linked.here;
      after = after;
    }

    -- the copy takes the node's place
    swaps : (copy : ℕ) (child : Child M) (held : AreHeld t pair (key_bytes task)) (made : IsPrivateOf t copy (grown_by held.here.node (key_bytes task) child))
        → Begins held.here.node.node.prefix (key_bytes task) → found held.here.node (key_bytes task) ≡ None
        → LeadsNow t' p held.above.node (key_bytes task) copy → t' q ≡ Some (record held.here.node { lifetime = is_detached }) → BecomesLinked t t' copy
        → Swaps t t' p q copy key held.above.node held.here.node made.node child
    swaps copy child held made begins empty above here linked = record {
      write = parent_writes copy held above;
      under = held.leads;
      old = record {
        here = held.here.linked;
        locked = held_locked held.here.node.word pair.here.word held.here.word held.here.free;
        prefix = refl;
        after = here;
      };
      begins = begins;
      empty = empty;
      new = record { made = made.here; private = made.lifetime; free = new_free made.node.word made.word; after = linked made.node made.here };
      prefix = ap (λ (n : TableNode M). n.prefix) made.is;
      children = ap (λ (n : TableNode M). n.children) made.is;
      small = small;
    }

    -- A LEAF'S COPY
    pub grows_leaf : (copy : ℕ) (at : AtPair Granted same t task pair GrowLeaf) (has : HasCopy t task at.held.here.node copy None) (v : M) → stores task ≡ Some v
        → LeadsNow t' p at.held.above.node (key_bytes task) copy → t' q ≡ Some (record at.held.here.node { lifetime = is_detached }) → BecomesLinked t t' copy
        → OthersStay t t' (p ∷ q ∷ copy ∷ [])
        → GrowsLeaf t t' p q copy key at.held.above.node at.held.here.node has.made.node v
    grows_leaf copy at has v is above here linked others = record {
      swap = subst (λ (c : Child M). Swaps t t' p q copy key at.held.above.node at.held.here.node has.made.node c)
          (has.own.2 ∙ ap Payload (some_same has.own.0 v (sym has.own.1 ∙ is)))
          (swaps copy has.child at.held has.made at.work.is.0 at.work.is.2 above here linked);
      full = at.work.is.1;
      others = others;
    }

    -- AN INNER NODE'S COPY
    pub grows_inner : (copy leaf : ℕ) (at : AtPair Granted same t task pair GrowInner) (has : HasCopy t task at.held.here.node copy (Some leaf)) (v : M) → stores task ≡ Some v
        → LeadsNow t' p at.held.above.node (key_bytes task) copy → t' q ≡ Some (record at.held.here.node { lifetime = is_detached }) → BecomesLinked t t' copy → BecomesLinked t t' leaf
        → OthersStay t t' (p ∷ q ∷ copy ∷ leaf ∷ [])
        → GrowsInner t t' p q copy leaf key at.held.above.node at.held.here.node has.made.node has.own.0.made.node v
    grows_inner copy leaf at has v is above here linked also others = record {
      swap = subst (λ (c : Child M). Swaps t t' p q copy key at.held.above.node at.held.here.node has.made.node c) has.own.1
          (swaps copy has.child at.held has.made at.work.is.0 at.work.is.2 above here linked);
      inner = at.work.is.1;
      leaf_new = made_published t t' task leaf has.own.0 (also has.own.0.made.node has.own.0.made.here);
      leaf = made_leaf t t' task leaf v is has.own.0;
      others = others;
    }

    -- the node is linked below the parent, and goes on from it as the key does
    below_parent : (held : AreHeld t pair (key_bytes task)) → (IsBelow t held.above.node (byte_at held.above.node (key_bytes task)) q)
    below_parent held = placed.below p held.above.node held.above.linked (byte_at held.above.node (key_bytes task)) q held.leads

    -- the middle node's prefix is longer than the parent's: up to the parent's next byte the node and the key agree
    forks_below : (prefix : List ℕ) (held : AreHeld t pair (key_bytes task)) → IsFork prefix held.here.node.node.prefix (key_bytes task) → length held.above.node.node.prefix < length prefix
    forks_below prefix held fork =
        let a : PlacedNode M = held.above.node in
        let b : PlacedNode M = held.here.node in
        let k = key_bytes task in
        let below = below_parent held in
        let same : below.node ≡ b = some_same below.node b (sym below.linked.here ∙ held.here.linked.here) in
        let on : Begins (a.node.prefix ++ byte_at a k ∷ []) b.node.prefix = subst (λ (z : PlacedNode M). Begins (a.node.prefix ++ byte_at a k ∷ []) z.node.prefix) same below.begins in
        forks_after a.node.prefix prefix b.node.prefix k (held.over.way a held.above.linked.here) on fork

    -- A SPLIT
    pub splits : (middle leaf : ℕ) (at : AtPair Granted same t task pair Split) (own : HasLeaf t task leaf) (has : HasMiddle t task at.held.here.node q middle leaf) (v : M) → stores task ≡ Some v
        → LeadsNow t' p at.held.above.node (key_bytes task) middle → BecomesLinked t t' middle → BecomesLinked t t' leaf
        → OthersStay t t' (p ∷ middle ∷ leaf ∷ [])
        → Splits t t' p q middle leaf key at.held.above.node at.held.here.node has.made.node own.made.node v
    splits middle leaf at own has v is above linked also others =
        let b : PlacedNode M = at.held.here.node in
        let longer : length at.held.above.node.node.prefix < length has.prefix = forks_below has.prefix at.held has.fork in
        let short : length b.node.prefix ≤ 7 = placed.short q b at.held.here.linked in
        let prefix_is : has.made.node.node.prefix ≡ has.prefix = ap (λ (n : TableNode M). n.prefix) has.made.is in
        record {
          write = parent_writes middle at.held above;
          under = at.held.leads;
          old = at.held.here.linked;
          middle_new = record { made = has.made.here; private = has.made.lifetime; free = new_free has.made.node.word has.made.word; after = linked has.made.node has.made.here };
          longer = subst (λ (z : List ℕ). length at.held.above.node.node.prefix < length z) (sym prefix_is) longer;
          middle = subst (λ (n : TableNode M). IsMiddle n b.node key q leaf) (sym has.made.is)
              (middle_of (spec.middle_of has.prefix b q (key_bytes task) leaf) b.node key q leaf (omega (arith, short, has.fork.shorter)) (placed.bytes q b at.held.here.linked)
              has.fork.left has.fork.right has.fork.shorter has.fork.apart refl);
          leaf_new = made_published t t' task leaf own (also own.made.node own.made.here);
          leaf = made_leaf t t' task leaf v is own;
          small = small;
          others = others;
        }

    -- THE KEY WAS ABSENT before the write: the node has no child under its byte, or has another prefix
    pub copied_absent : (held : AreHeld t pair (key_bytes task)) → Begins held.here.node.node.prefix (key_bytes task) → found held.here.node (key_bytes task) ≡ None
        → (v : M) → Keeps t (key_bytes task) v → ⊥
    copied_absent held begins none = absent_here t root (key_bytes task) placed q held.here.node held.here.linked begins none

    pub split_absent : (held : AreHeld t pair (key_bytes task)) → (Begins held.here.node.node.prefix (key_bytes task) → ⊥) → (v : M) → Keeps t (key_bytes task) v → ⊥
    split_absent held other =
        absent_mismatch t root (key_bytes task) placed p q held.above.node held.here.node held.above.linked (held.over.way held.above.node held.above.linked.here) held.leads held.here.linked.here other

  -- the parent is an inner node
  pub above_inner : (t : NodeMap M) (root : ℕ) (task : Task M) (pair : NodePair) → IsPlaced t root → (held : AreHeld t pair (key_bytes task)) → length held.above.node.node.prefix < 7
  above_inner t root task pair placed held =
      let byte = byte_at held.above.node (key_bytes task) in
      let below = placed.below pair.above.slot held.above.node held.above.linked byte pair.here.slot held.leads in
      let short : length below.node.node.prefix ≤ 7 = placed.short pair.here.slot below.node below.linked in
      let longer : length held.above.node.node.prefix < length below.node.node.prefix = longer-begins held.above.node.node.prefix below.node.node.prefix byte below.begins in
      omega arith

  -- a private node of a call
  pub record IsPrivate (t : NodeMap M) (s : ℕ) : Type 0 where
    pub node : PlacedNode M
    pub here : t s ≡ Some node
    pub lifetime : node.lifetime ≡ is_private

  -- THE CALL'S OWN NODES are private before
  pub copy_private : (t : NodeMap M) (task : Task M) (a : PlacedNode M) (copy : ℕ) (leaf : Option ℕ) → HasCopy t task a copy leaf → (s : ℕ) → IsIn s (copy ∷ one_more leaf) → IsPrivate t s
  copy_private t task a copy None has s h =
      elim h [
        | inl e ↦ subst (λ z. IsPrivate t z) e (record { node = has.made.node; here = has.made.here; lifetime = has.made.lifetime })
        | inr none ↦ absurd none
      ]
  copy_private t task a copy (Some leaf) has s h =
      elim h [
        | inl e ↦ subst (λ z. IsPrivate t z) e (record { node = has.made.node; here = has.made.here; lifetime = has.made.lifetime })
        | inr (inl e) ↦ subst (λ z. IsPrivate t z) e (record { node = has.own.0.made.node; here = has.own.0.made.here; lifetime = has.own.0.made.lifetime })
        | inr (inr none) ↦ absurd none
      ]

  pub middle_private : (t : NodeMap M) (task : Task M) (q : ℕ) (a : PlacedNode M) (middle leaf : ℕ) → HasLeaf t task leaf → HasMiddle t task a q middle leaf → (s : ℕ) → IsIn s (middle ∷ leaf ∷ []) → IsPrivate t s
  middle_private t task q a middle leaf own has s h =
      elim h [
        | inl e ↦ subst (λ z. IsPrivate t z) e (record { node = has.made.node; here = has.made.here; lifetime = has.made.lifetime })
        | inr (inl e) ↦ subst (λ z. IsPrivate t z) e (record { node = own.made.node; here = own.made.here; lifetime = own.made.lifetime })
        | inr (inr none) ↦ absurd none
      ]
