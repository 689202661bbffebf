-- The call runs, nothing is booked, and no more is seen.
use Rattle.std.proofs.Common.{◌≡◌}
use Rattle.std.specs.Prelude.{Some}
use Rattle.share_backend.specs.declared.lent.CallStage.TheVariants.{Running}
use Rattle.share_holds.specs.Closures.{Reaches}
use Rattle.share_holds.specs.inner.Events.{WasCalled}
use Rattle.share_rule.specs.inner.Steps.{SeesNoMore, at_of}
use Rattle.spec_olc.specs.Calls.{outline_of}
use Rattle.spec_olc.specs.Meaning.{op_of}
use Rattle.spec_olc.specs.declared.types.Asking.{Asking}
use Rattle.share_holds.proofs.loops.go_on.Given as goal

abbrev pub invariant-loop : goal.invariant-loop
invariant-loop g l =
    (goal.iterator-loop g).can_next l.iterator' × (goal.iterator-loop g).is_finite l.iterator' ×
    g.Q.Asks.can_ask l.f × (l.purse ≡ l.initial.purse) ×
    (l.seat.table_id ≡ l.initial.seat.table_id) × SeesNoMore l.initial.seat.me l.seat.me ×
    ((s : Asking g.row.T.Denot) × (at_of l.seat.me.0 ≡ Some (l.id, Running (outline_of l.op) (op_of g.M.Lent.meaning l.op) s))
    × WasCalled g.M.Lent.meaning g.Q.Asks.step l.f s l.answer)
    × Reaches g.Q.Asks.step l.initial.f l.f
