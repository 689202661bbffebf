-- WHAT A WRITE LEAVES TO CLEAN UP, and how many events that may take.
use Rattle.std.proofs.Common.{◌≡◌, ◌≤◌, Bool, true, false, is_some, length, Option, Some, None, IsTrue, refl, sym, subst, ◌∙◌, arith}
use Rattle.node_base.specs.Form.{few_in}
use Rattle.spec_node.specs.TableNode.{TableNode}
use Rattle.spec_node.specs.declared.child.Child.TheVariants.{Payload}
use Rattle.spec_olc.specs.Alone.{may_remove}
use Rattle.spec_olc.specs.Calls.{Outline, or_else, outline_of}
use Rattle.spec_olc.specs.Due.{IsLeft}
use Rattle.spec_olc.specs.Meaning.{child_of, in_some}
use Rattle.spec_olc.specs.declared.types.Asking.{Asking}
use Rattle.spec_olc.specs.declared.types.Op.{Op}
use Rattle.spec_olc.specs.declared.types.Op.TheVariants.{Get, Insert, Remove, ComputeIfPresent, ComputeOrInsert, CompareExchange, Range}
use Rattle.spec_olc.specs.declared.types.Progress.TheVariants as progress
use Rattle.olc_state.specs.declared.cleanup.Cleanup.{Cleanup}
use Rattle.olc_state.specs.declared.stage.Task.{Task}
use Rattle.olc_state.specs.inner.Effects.{IsChange}
use Rattle.olc_state.specs.inner.Meant.{meant_node}
use Rattle.olc_state.specs.inner.TailFacts.{EndsWith, WritesAtKey}
use Rattle.olc_state.specs.inner.Tails.{left_in, unlock_work}
use Rattle.olc_state.specs.inner.Tasks.{IsOpen, closed}
use Rattle.olc_state.specs.inner.Turns.{cleanup_work}
use Rattle.olc_state.proofs.Options.{none_some}
use Rattle.olc_state.proofs.Unlike.{decided_open}
use Rattle.olc_laws.proofs.Entries.{payload}
use Rattle.olc_write.specs.inner.Leaving.{IsLeftBy, IsLeftOf}
use Rattle.node_table.proofs.KindLaws.{length-mapped}

module _ {M : Type 0} where
  -- what a reader sees of it
  pub is_left : (a : TableNode M) (left : Option Cleanup) → IsLeftOf true a left → IsLeft None None a (left_in left)
  is_left a None h = λ may none. h
  is_left a (Some c) h = (refl, refl, h.0, h.1, ((λ again. refl), (λ none. h.2)))

  pub is_left_by : (value : Option M) (a : TableNode M) (left : Option Cleanup) → IsLeftBy value a left → IsLeft None (payload value) a (left_in left)
  is_left_by None a left h = is_left a left h
  is_left_by (Some v) a left h = subst (λ (l : Option Cleanup). IsLeft None (payload (Some v)) a (left_in l)) (sym h) (λ may none. absurd (none_some (Payload v) (sym none)))

  -- what the code leaves by whether it stores a value
  pub leaves_by : {P : Type 0} (meaning : P → M) (a : TableNode M) (left : Option Cleanup) (value : Option P) (stores : Bool) → stores ≡ is_some value → (IsTrue stores → left ≡ None) → (stores ≡ false → IsLeftOf true a left)
      → IsLeftBy (in_some meaning value) a left
  leaves_by meaning a left None stores is stored removed = removed is
  leaves_by meaning a left (Some v) stores is stored removed = stored is

  -- the same of the node with payloads replaced by what they mean
  pub left_meant : {P : Type 0} (meaning : P → M) (again : Bool) (a : TableNode P) (left : Option Cleanup) → IsLeftOf again a left → IsLeftOf again (meant_node meaning a) left
  left_meant meaning again a None h = λ due. h (record { below_root = due.below_root; few = subst (λ n. n ≤ few_in a.form) (length-mapped (child_of meaning) a.children) due.few })
  left_meant meaning again a (Some c) h = (
    record { below_root = h.0.below_root; few = subst (λ n. n ≤ few_in a.form) (sym (length-mapped (child_of meaning) a.children)) h.0.few },
    h.1,
    h.2,
  )

  -- its events, and those of a second one
  pub left_short : (a : TableNode M) (left : Option Cleanup) → IsLeftOf true a left → length a.prefix ≤ 7 → unlock_work progress.Decided left ≤ 72
  left_short a None h short = omega arith
  left_short a (Some c) h short =
      let most : c.length ≤ 7 = omega (arith, h.1, short) in
      rw h.2 (omega (arith, most))

  -- a call with a reply and no payload may clean up
  pub ends_with : (Granted : Type 0) (same : M → M → Bool) (task : Task M) (opened : IsOpen task) (a : TableNode M) (left : Option Cleanup) → IsTrue (may_remove task.outline) → length a.prefix ≤ 7 → IsLeftOf true a left
      → EndsWith Granted same (closed progress.Decided task) left
  ends_with Granted same task opened a None may short h = decided_open
  ends_with Granted same task opened a (Some c) may short h =
      let same_length : c.length ≡ length a.prefix = h.1 in
      record { decided = refl; op = refl; fresh = refl; point = opened.point; removes = may; below_root = omega (arith, same_length, h.0.below_root); short = omega (arith, same_length, short) }

  -- A CALL THAT REMOVES ITS KEY is of a kind that may
  or_else_some : (answer : Option M) (v : M) → None ≡ or_else answer v → ⊥
  or_else_some None v e = none_some v e
  or_else_some (Some a) v e = none_some a e

  module _ (same : M → M → Bool) where
    change_removes : (op : Op M) (asking : Asking M) (at_key value : Option M) → IsChange same op asking at_key value → value ≡ None → IsTrue (may_remove (outline_of op))
    change_removes (Get k) asking at_key value change none = absurd change
    change_removes (Insert k v) asking at_key value change none = absurd (none_some v (sym none ∙ change.1))
    change_removes (Remove k) asking at_key value change none = refl
    change_removes (ComputeIfPresent k) asking at_key value change none = refl
    change_removes (ComputeOrInsert k v) asking at_key value change none = absurd (or_else_some change.0 v (sym none ∙ change.2))
    change_removes (CompareExchange k old new) asking at_key value change none = refl
    change_removes (Range a b n) asking at_key value change none = absurd change

    pub may_have_removed : (Granted : Type 0) (task : Task M) (at_key : Option M) (w : WritesAtKey Granted same task at_key) → w.value ≡ None → IsTrue (may_remove task.outline)
    may_have_removed Granted task at_key w none = subst (λ (o : Outline). IsTrue (may_remove o)) w.opened.outline (change_removes w.opened.op task.asking at_key w.value w.change none)

    pub removing_work : (Granted : Type 0) (task : Task M) (at_key : Option M) (w : WritesAtKey Granted same task at_key) → w.value ≡ None → cleanup_work task.progress task.outline ≡ 70
    removing_work Granted task at_key w none =
        let may : IsTrue (may_remove task.outline) = may_have_removed Granted task at_key w none in
        rw (w.opened.undecided, may) refl
