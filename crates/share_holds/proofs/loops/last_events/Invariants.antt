-- The call is over, and no more is seen.
use Rattle.std.proofs.Common.{◌≡◌}
use Rattle.std.specs.Prelude.{Some}
use Rattle.share_backend.specs.declared.lent.CallStage.{CallStage}
use Rattle.share_holds.specs.inner.Events.{IsOver}
use Rattle.share_rule.specs.inner.Steps.{SeesNoMore, at_of}
use Rattle.spec_olc.specs.Calls.{outline_of}
use Rattle.share_holds.proofs.loops.last_events.Given as goal

abbrev pub invariant-loop : goal.invariant-loop
invariant-loop g l =
    (goal.iterator-loop g).can_next l.iterator' × (goal.iterator-loop g).is_finite l.iterator' ×
    (l.seat.table_id ≡ l.initial.seat.table_id) × SeesNoMore l.initial.seat.me l.seat.me ×
    ((p : CallStage g.row.T.Denot) × IsOver (outline_of l.op) p × (at_of l.seat.me.0 ≡ Some (l.id, p)))
