-- What a call knows after a Make, and after one that is refused.
use Rattle.std.proofs.Common.{Bool, IsSome, ◌≡◌, ◌≢◌, ℕ, List, Option, Some, None, refl, sym, subst, ap, ◌∙◌}
use Rattle.node_table.specs.Charge.{Charge}
use Rattle.spec_node.specs.TableNode.{TableNode, Child}
use Rattle.spec_olc.specs.Calls.{IsPoint}
use Rattle.spec_olc.specs.Local.{payload_in}
use Rattle.olc_state.specs.declared.stage.Spot.{Spot}
use Rattle.olc_state.specs.declared.stage.Task.{Task}
use Rattle.olc_state.specs.declared.tail.Large.{Large}
use Rattle.olc_state.specs.declared.tail.Large.TheVariants.{GrowLeaf, GrowInner, Split, Detach}
use Rattle.olc_state.specs.declared.tail.NodePair.{NodePair}
use Rattle.olc_state.specs.declared.tail.Small.{Small}
use Rattle.olc_state.specs.declared.tail.Small.TheVariants.{Leaf}
use Rattle.olc_state.specs.inner.Effects.{IsChange}
use Rattle.olc_state.specs.inner.Slots.{made_node}
use Rattle.olc_state.specs.inner.Tables.{IsLinked, OnWay}
use Rattle.olc_state.specs.inner.TailFacts.{AreHeld, AtNode, AtPair, HasCopy, HasLeaf, HasMiddle, HasNewLeaf, HasOwn, IsFork, IsHeld, IsPrivateOf, IsOver, LargeWork, SmallWork, WritesAtKey, grown_by, is_for, leaf_of, middle_of, stores}
use Rattle.olc_state.specs.inner.Tasks.{key_bytes}
use Rattle.olc_state.specs.inner.World.{PlacedNode, NodeMap}
use Rattle.olc_state.proofs.Options.{none_some, some_same}
use Rattle.olc_state.proofs.Replies.{change_enters}
use Rattle.olc_state.proofs.Unlike.{linked_private, refused_open}
use Rattle.olc_write.specs.inner.Makings.{IsGivenUp, gone}

-- what a call stores if its key is absent
pub record Enters {M : Type 0} (task : Task M) : Type 0 where
  pub point : IsPoint task.outline
  pub value : M
  pub stores : stores task ≡ Some value

pub some_stored : {M : Type 0} (task : Task M) → Enters task → IsSome (stores task)
some_stored {M = M} task own = subst (λ (o : Option M). IsSome o) (sym own.stores) refl

module _ {M : Type 0} (Granted : Type 0) (same : M → M → Bool) (task : Task M) where
  enters : (at_key : Option M) → WritesAtKey Granted same task at_key → at_key ≡ None → Enters task
  enters at_key w none =
      let new = change_enters same w.opened.op task.asking w.value (subst (λ (z : Option M). IsChange same w.opened.op task.asking z w.value) none w.change) in record { point = w.opened.point; value = new.0; stores = w.stores ∙ new.1 }

  -- a new leaf, and a payload more in a larger one
  pub leaf_enters : (a : PlacedNode M) → SmallWork Granted same Leaf task a → Enters task
  leaf_enters a work = enters _ work.writes (ap payload_in work.is.1)

  pub leaf_enters_below : (large : Large) (a : PlacedNode M) → HasNewLeaf large → LargeWork Granted same large task a → Enters task
  leaf_enters_below GrowLeaf a new work = absurd new
  leaf_enters_below GrowInner a new work = enters None work.writes refl
  leaf_enters_below Split a new work = enters None work.writes refl
  leaf_enters_below Detach a new work = absurd new

  pub copy_enters : (leaf : Option ℕ) (a : PlacedNode M) → LargeWork Granted same (is_for leaf) task a → Enters task
  copy_enters None a work = enters None work.writes refl
  copy_enters (Some leaf) a work = enters None work.writes refl

module _ {M : Type 0} (t t' : NodeMap M) where
  -- a slot that has a node isn't the one that gets one
  pub there_still : (slot s : ℕ) (a : PlacedNode M) → t slot ≡ None → ((o : ℕ) → o ≢ slot → t' o ≡ t o) → t s ≡ Some a → t' s ≡ t s
  there_still slot s a empty others here = others s (λ e. none_some a (sym empty ∙ subst (λ (z : ℕ). t z ≡ Some a) e here))

  -- a linked node isn't freed
  pub linked_still : (made : Option ℕ) (charge charge' : Option Charge) (s : ℕ) (a : PlacedNode M) → IsGivenUp t t' made charge charge' → IsLinked t s a → t' s ≡ t s
  linked_still None charge charge' s a up here = up.nodes s
  linked_still (Some slot) charge charge' s a up linked =
      up.others s (λ e.
      let one : a ≡ up.node = some_same a up.node (sym linked.here ∙ subst (λ (z : ℕ). t z ≡ Some up.node) (sym e) up.here) in
      linked_private (sym linked.lifetime ∙ (ap (λ (z : PlacedNode M). z.lifetime) one ∙ up.private)))

  abbrev pub held_still : (spot : Spot) → IsHeld t spot → t' spot.slot ≡ t spot.slot → IsHeld t' spot
  held_still spot h same = record {
    node = h.node;
    linked = record { here = same ∙ h.linked.here; lifetime = h.linked.lifetime };
    word = h.word;
    free = h.free;
    room = h.room;
  }

  pub way_still : (s : ℕ) (k : List ℕ) → t' s ≡ t s → OnWay t s k → OnWay t' s k
  way_still s k same way a here = way a (sym same ∙ here)

  pub leaf_still : (task : Task M) (leaf : ℕ) → HasLeaf t task leaf → t' leaf ≡ t leaf → HasLeaf t' task leaf
  leaf_still task leaf h same = record {
    value = h.value;
    stores = h.stores;
    made = record { node = h.made.node; here = same ∙ h.made.here; lifetime = h.made.lifetime; word = h.made.word; is = h.made.is };
  }

  abbrev pub pair_still : (pair : NodePair) (k : List ℕ) → AreHeld t pair k → t' pair.above.slot ≡ t pair.above.slot → t' pair.here.slot ≡ t pair.here.slot → AreHeld t' pair k
  pair_still pair k h above here = record {
    over = record { way = way_still pair.above.slot k above h.over.way; apart = h.over.apart };
    above = held_still pair.above h.above above;
    here = held_still pair.here h.here here;
    leads = h.leads;
  }

  module _ (Granted : Type 0) (same : M → M → Bool) (task : Task M) where
    abbrev pub at_node_still : (spot : Spot) (small : Small) → AtNode Granted same t task spot small → t' spot.slot ≡ t spot.slot → AtNode Granted same t' task spot small
    at_node_still spot small at here = record { way = way_still spot.slot (key_bytes task) here at.way; held = held_still spot at.held here; work = at.work }

    abbrev pub at_pair_still : (pair : NodePair) (large : Large) → AtPair Granted same t task pair large → t' pair.above.slot ≡ t pair.above.slot → t' pair.here.slot ≡ t pair.here.slot → AtPair Granted same t' task pair large
    at_pair_still pair large at above here = record { held = pair_still pair (key_bytes task) at.held above here; work = at.work }

  made_is : (slot : ℕ) (a b : TableNode M) → t' slot ≡ Some (made_node a) → a ≡ b → IsPrivateOf t' slot b
  made_is slot a b here is = record { node = made_node a; here = here; lifetime = refl; word = refl; is = is }

  -- A NODE WAS ADDED in a slot that was empty
  module _ (Granted : Type 0) (same : M → M → Bool) (task : Task M) (slot : ℕ) (a : TableNode M) (empty : t slot ≡ None) (there : t' slot ≡ Some (made_node a)) (others : (o : ℕ) → o ≢ slot → t' o ≡ t o) where
    abbrev pub still : (s : ℕ) (b : PlacedNode M) → t s ≡ Some b → t' s ≡ t s
    still s b here = there_still slot s b empty others here

    new_leaf : (v : M) → stores task ≡ Some v → a ≡ leaf_of (key_bytes task) v → HasLeaf t' task slot
    new_leaf v stores is = record { value = v; stores = stores; made = made_is slot a (leaf_of (key_bytes task) v) there is }

    pub leaf_made : (spot : Spot) → AtNode Granted same t task spot Leaf → (own : Enters task) → a ≡ leaf_of (key_bytes task) own.value → AtNode Granted same t' task spot Leaf × HasLeaf t' task slot
    leaf_made spot at own is = (
      at_node_still Granted same task spot Leaf at (still spot.slot at.held.node at.held.linked.here),
      new_leaf own.value own.stores is,
    )

    abbrev pub pair_on : (pair : NodePair) (large : Large) → AtPair Granted same t task pair large → AtPair Granted same t' task pair large
    pair_on pair large at =
        at_pair_still Granted same task pair large at (still pair.above.slot at.held.above.node at.held.above.linked.here) (still pair.here.slot at.held.here.node at.held.here.linked.here)

    pub leaf_made_below : (pair : NodePair) (large : Large) → AtPair Granted same t task pair large → (own : Enters task) → a ≡ leaf_of (key_bytes task) own.value → AtPair Granted same t' task pair large × HasLeaf t' task slot
    leaf_made_below pair large at own is = (pair_on pair large at, new_leaf own.value own.stores is)

    leaf_on : (leaf : ℕ) → HasLeaf t task leaf → HasLeaf t' task leaf
    leaf_on leaf h = leaf_still task leaf h (still leaf h.made.node h.made.here)

    pub middle_made : (pair : NodePair) (leaf : ℕ) (at : AtPair Granted same t task pair Split) → HasLeaf t task leaf → (prefix : List ℕ) → IsFork prefix at.held.here.node.node.prefix (key_bytes task)
        → a ≡ middle_of prefix at.held.here.node pair.here.slot (key_bytes task) leaf
        → (now : AtPair Granted same t' task pair Split) × HasLeaf t' task leaf × HasMiddle t' task now.held.here.node pair.here.slot slot leaf
    middle_made pair leaf at has prefix fork is = (
      pair_on pair Split at,
      leaf_on leaf has,
      record { prefix = prefix; fork = fork; made = made_is slot a (middle_of prefix at.held.here.node pair.here.slot (key_bytes task) leaf) there is },
    )

    own_on : (leaf : Option ℕ) (child : Child M) → HasOwn t task leaf child → HasOwn t' task leaf child
    own_on None child own = own
    own_on (Some leaf) child own = (leaf_on leaf own.0, own.1)

    pub copy_made : (pair : NodePair) (leaf : Option ℕ) (at : AtPair Granted same t task pair (is_for leaf)) → (child : Child M) → HasOwn t task leaf child
        → a ≡ grown_by at.held.here.node (key_bytes task) child
        → (now : AtPair Granted same t' task pair (is_for leaf)) × HasCopy t' task now.held.here.node slot leaf
    copy_made pair leaf at child own is = (
      pair_on pair (is_for leaf) at,
      record { child = child; own = own_on leaf child own; made = made_is slot a (grown_by at.held.here.node (key_bytes task) child) there is },
    )

  -- WHAT WAS MADE IS FREED: the held nodes stay
  module _ (Granted : Type 0) (same : M → M → Bool) (task : Task M) (made : Option ℕ) (charge charge' : Option Charge) (up : IsGivenUp t t' made charge charge') where
    pub over : IsOver Granted same (gone task)
    over e = refused_open e

    pub both_left : (pair : NodePair) (k : List ℕ) → AreHeld t pair k → IsOver Granted same (gone task) × IsHeld t' pair.above × IsHeld t' pair.here × (pair.above.slot ≢ pair.here.slot)
    both_left pair k h = (
      over,
      held_still pair.above h.above (linked_still made charge charge' pair.above.slot h.above.node up h.above.linked),
      held_still pair.here h.here (linked_still made charge charge' pair.here.slot h.here.node up h.here.linked),
      h.over.apart,
    )
