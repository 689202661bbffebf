-- The four Makes, each granted and refused, from what their call knows and from what was built.
use Rattle.std.proofs.Common.{◌≡◌, ℕ, Bool, true, [], ◌∷◌, Option, Some, None, IfSome, inr, refl, sym, subst, arith}
use Rattle.node_table.specs.Charge.{Charge}
use Rattle.spec_node.specs.TableNode.{TableNode}
use Rattle.spec_olc.specs.Kinds.{report_of}
use Rattle.spec_olc.specs.Writing.{IsNewNode}
use Rattle.spec_olc.specs.declared.types.Env.{Env}
use Rattle.spec_olc.specs.declared.types.Kind.TheVariants as kind
use Rattle.spec_olc.specs.declared.types.Outcome.TheVariants.{Going, Refused}
use Rattle.olc_state.specs.declared.stage.Spot.{Spot}
use Rattle.olc_state.specs.declared.stage.Task.{Task}
use Rattle.olc_state.specs.declared.stock.Stock.{Stock}
use Rattle.olc_state.specs.declared.tail.Large.{Large}
use Rattle.olc_state.specs.declared.tail.Large.TheVariants.{GrowLeaf, GrowInner, Split, Detach}
use Rattle.olc_state.specs.declared.tail.NodePair.{NodePair}
use Rattle.olc_state.specs.declared.tail.Tail.TheVariants.{Grow, Link, MakeLeaf, MakeLeafBelow, MakeMiddle, Unlock, UnlockBelow}
use Rattle.olc_state.specs.inner.Meant.{meant_node, meant_task}
use Rattle.olc_state.specs.inner.Shown.{flight}
use Rattle.olc_state.specs.inner.Stocks.{IsStoreSound, StockKnows, StockMoves, table_in}
use Rattle.olc_state.specs.inner.TailFacts.{leaf_of}
use Rattle.olc_state.specs.inner.Tasks.{key_bytes}
use Rattle.olc_state.proofs.Options.{none_some, some_same}
use Rattle.olc_state.proofs.Unlike.{cons_none}
use Rattle.olc_write.specs.inner.Makings.{AddsBuilt, GivesUp, IsLeafForTask, gone, next_make}
use Rattle.olc_write.proofs.Copies.{leaf_new}
use Rattle.olc_write.proofs.MakingEvents.{granted_moves, refused_moves}
use Rattle.olc_write.proofs.MakingNodes.{at}
use Rattle.olc_write.proofs.MakingFacts.{Enters, copy_enters, both_left, held_still, leaf_enters, leaf_enters_below, leaf_made, leaf_made_below, linked_still, over}

-- what holds of each node that was built holds of this one
pub built_is : {X : Type 0} (Q : X → Type 0) (built : Option X) (x : X) → IfSome built Q → built ≡ Some x → Q x
built_is Q None x h e = absurd (none_some x e)
built_is Q (Some y) x h e = subst Q (some_same y x e) h

module _ {P A M : Type 0} (meaning : P → M) (charge : A → Option Charge) (Granted : Type 0) (same : M → M → Bool) (old new : Stock P A) (pin : ℕ) (task : Task P) (env : Env P) (kept : IsStoreSound meaning charge old) where
  -- A LEAF FOR THE HELD INNER NODE
  pub leaf_moves : (spot : Spot) (slot : ℕ) (built : Option (TableNode P)) → StockKnows meaning charge Granted same old pin (at (MakeLeaf spot) task) → IfSome built (λ n. IsLeafForTask meaning task n) → AddsBuilt meaning charge old new slot built
      → StockMoves meaning charge Granted same old new pin (at (MakeLeaf spot) task) env (at (Link spot slot) task) (report_of kind.Make (Some slot) 0 true) Going
  leaf_moves spot slot built facts leaf adds =
      let own : Enters (meant_task meaning task) = leaf_enters Granted same (meant_task meaning task) facts.at.held.node facts.at.work in
      let is : meant_node meaning adds.node ≡ leaf_of (key_bytes (meant_task meaning task)) own.value = built_is (λ n. IsLeafForTask meaning task n) built adds.node leaf adds.is own.value own.stores in
      granted_moves meaning charge Granted same old new kept pin task env (MakeLeaf spot) (Link spot slot) facts.small facts.at.work.writes.opened.undecided own
      (record { holds = cons_none spot.slot []; held = refl; named = refl; remembered = refl }) refl refl
      slot (meant_node meaning adds.node) adds.adds refl (omega arith) (omega arith)
      (λ s shows. subst (λ (a : TableNode M). IsNewNode s (flight pin (at (MakeLeaf spot) (meant_task meaning task))) a) (sym is) (leaf_new s pin (meant_task meaning task) (MakeLeaf spot) own.value own.stores))
      (leaf_made (table_in meaning charge old) (table_in meaning charge new) Granted same (meant_task meaning task) slot (meant_node meaning adds.node) adds.adds.empty adds.adds.here adds.adds.others spot facts.at own is)

  pub leaf_refused : (spot : Spot) → StockKnows meaning charge Granted same old pin (at (MakeLeaf spot) task) → GivesUp meaning charge old new None
      → StockMoves meaning charge Granted same old new pin (at (MakeLeaf spot) task) env (at (Unlock spot None) (gone task)) (report_of kind.Make None 0 true) Refused
  leaf_refused spot facts gives =
      refused_moves meaning charge Granted same old new kept pin task env (MakeLeaf spot) (Unlock spot None) facts.small facts.at.work.writes.opened.undecided (leaf_enters Granted same (meant_task meaning task) facts.at.held.node facts.at.work)
      (record { holds = cons_none spot.slot []; held = refl; named = refl; remembered = refl }) refl refl
      None refl gives refl (omega arith) (
        held_still (table_in meaning charge old) (table_in meaning charge new) spot facts.at.held (linked_still (table_in meaning charge old) (table_in meaning charge new) None _ _ spot.slot facts.at.held.node gives.up facts.at.held.linked),
        inr (over (table_in meaning charge old) (table_in meaning charge new) Granted same (meant_task meaning task) None _ _ gives.up),
      )

  -- THE SAME, WITH BOTH HELD
  pub leaf_moves_below : (pair : NodePair) (large : Large) (slot : ℕ) (built : Option (TableNode P)) → StockKnows meaning charge Granted same old pin (at (MakeLeafBelow pair large) task) → IfSome built (λ n. IsLeafForTask meaning task n) → AddsBuilt meaning charge old new slot built
      → StockMoves meaning charge Granted same old new pin (at (MakeLeafBelow pair large) task) env (at (next_make pair large slot) task) (report_of kind.Make (Some slot) 0 true) Going
  leaf_moves_below pair GrowLeaf slot built facts leaf adds = absurd facts.at.1
  leaf_moves_below pair Detach slot built facts leaf adds = absurd facts.at.1
  leaf_moves_below pair GrowInner slot built facts leaf adds =
      let work = facts.at.0.work in
      let own : Enters (meant_task meaning task) = leaf_enters_below Granted same (meant_task meaning task) GrowInner facts.at.0.held.here.node facts.at.1 work in
      let is : meant_node meaning adds.node ≡ leaf_of (key_bytes (meant_task meaning task)) own.value = built_is (λ n. IsLeafForTask meaning task n) built adds.node leaf adds.is own.value own.stores in
      granted_moves meaning charge Granted same old new kept pin task env (MakeLeafBelow pair GrowInner) (Grow pair (Some slot)) facts.small work.writes.opened.undecided own
      (record { holds = cons_none pair.here.slot (pair.above.slot ∷ []); held = refl; named = refl; remembered = refl }) refl refl
      slot (meant_node meaning adds.node) adds.adds refl (omega arith) (omega arith)
      (λ s shows. subst (λ (a : TableNode M). IsNewNode s (flight pin (at (MakeLeafBelow pair GrowInner) (meant_task meaning task))) a) (sym is) (leaf_new s pin (meant_task meaning task) (MakeLeafBelow pair GrowInner) own.value own.stores))
      (leaf_made_below (table_in meaning charge old) (table_in meaning charge new) Granted same (meant_task meaning task) slot (meant_node meaning adds.node) adds.adds.empty adds.adds.here adds.adds.others pair GrowInner facts.at.0 own is)
  leaf_moves_below pair Split slot built facts leaf adds =
      let work = facts.at.0.work in
      let own : Enters (meant_task meaning task) = leaf_enters_below Granted same (meant_task meaning task) Split facts.at.0.held.here.node facts.at.1 work in
      let is : meant_node meaning adds.node ≡ leaf_of (key_bytes (meant_task meaning task)) own.value = built_is (λ n. IsLeafForTask meaning task n) built adds.node leaf adds.is own.value own.stores in
      granted_moves meaning charge Granted same old new kept pin task env (MakeLeafBelow pair Split) (MakeMiddle pair slot) facts.small work.writes.opened.undecided own
      (record { holds = cons_none pair.here.slot (pair.above.slot ∷ []); held = refl; named = refl; remembered = refl }) refl refl
      slot (meant_node meaning adds.node) adds.adds refl (omega arith) (omega arith)
      (λ s shows. subst (λ (a : TableNode M). IsNewNode s (flight pin (at (MakeLeafBelow pair Split) (meant_task meaning task))) a) (sym is) (leaf_new s pin (meant_task meaning task) (MakeLeafBelow pair Split) own.value own.stores))
      (leaf_made_below (table_in meaning charge old) (table_in meaning charge new) Granted same (meant_task meaning task) slot (meant_node meaning adds.node) adds.adds.empty adds.adds.here adds.adds.others pair Split facts.at.0 own is)

  -- the same call, refused with both held
  pub leaf_refused_below : (pair : NodePair) (large : Large) → StockKnows meaning charge Granted same old pin (at (MakeLeafBelow pair large) task) → GivesUp meaning charge old new None
      → StockMoves meaning charge Granted same old new pin (at (MakeLeafBelow pair large) task) env (at (UnlockBelow pair) (gone task)) (report_of kind.Make None 0 true) Refused
  leaf_refused_below pair large facts gives =
      refused_moves meaning charge Granted same old new kept pin task env (MakeLeafBelow pair large) (UnlockBelow pair) facts.small facts.at.0.work.writes.opened.undecided (leaf_enters_below Granted same (meant_task meaning task) large facts.at.0.held.here.node facts.at.1 facts.at.0.work)
      (record { holds = cons_none pair.here.slot (pair.above.slot ∷ []); held = refl; named = refl; remembered = refl }) refl refl
      None refl gives refl (omega arith)
      (both_left (table_in meaning charge old) (table_in meaning charge new) Granted same (meant_task meaning task) None _ _ gives.up pair (key_bytes (meant_task meaning task)) facts.at.0.held)

  pub middle_refused : (pair : NodePair) (leaf : ℕ) → StockKnows meaning charge Granted same old pin (at (MakeMiddle pair leaf) task) → GivesUp meaning charge old new (Some leaf)
      → StockMoves meaning charge Granted same old new pin (at (MakeMiddle pair leaf) task) env (at (UnlockBelow pair) (gone task)) (report_of kind.Make None 0 true) Refused
  middle_refused pair leaf facts gives =
      refused_moves meaning charge Granted same old new kept pin task env (MakeMiddle pair leaf) (UnlockBelow pair) facts.small facts.at.0.work.writes.opened.undecided (leaf_enters_below Granted same (meant_task meaning task) Split facts.at.0.held.here.node tt facts.at.0.work)
      (record { holds = cons_none pair.here.slot (pair.above.slot ∷ []); held = refl; named = refl; remembered = refl }) refl refl
      (Some leaf) refl gives refl (omega arith)
      (both_left (table_in meaning charge old) (table_in meaning charge new) Granted same (meant_task meaning task) (Some leaf) _ _ gives.up pair (key_bytes (meant_task meaning task)) facts.at.0.held)

  pub copy_refused : (pair : NodePair) (leaf : Option ℕ) → StockKnows meaning charge Granted same old pin (at (Grow pair leaf) task) → GivesUp meaning charge old new leaf
      → StockMoves meaning charge Granted same old new pin (at (Grow pair leaf) task) env (at (UnlockBelow pair) (gone task)) (report_of kind.Make None 0 true) Refused
  copy_refused pair leaf facts gives =
      refused_moves meaning charge Granted same old new kept pin task env (Grow pair leaf) (UnlockBelow pair) facts.small facts.at.0.work.writes.opened.undecided (copy_enters Granted same (meant_task meaning task) leaf facts.at.0.held.here.node facts.at.0.work)
      (record { holds = cons_none pair.here.slot (pair.above.slot ∷ []); held = refl; named = refl; remembered = refl }) refl refl
      leaf refl gives refl (omega arith)
      (both_left (table_in meaning charge old) (table_in meaning charge new) Granted same (meant_task meaning task) leaf _ _ gives.up pair (key_bytes (meant_task meaning task)) facts.at.0.held)
