-- Nothing is booked until an attempt has a reply, and no more is seen.
use Rattle.std.proofs.Common.{◌≡◌}
use Rattle.std.specs.Prelude.{Some}
use Rattle.share_backend.specs.declared.lent.CallStage.TheVariants.{Ready}
use Rattle.share_holds.specs.Closures.{Reaches}
use Rattle.share_rule.specs.inner.Steps.{SeesNoMore, at_of}
use Rattle.share_holds.proofs.loops.call.Given as goal

abbrev pub invariant-loop : goal.invariant-loop
invariant-loop g l =
    (goal.iterator-loop g).can_next l.iterator' × (goal.iterator-loop g).is_finite l.iterator' ×
    g.Q.Asks.can_ask l.f × (l.purse ≡ l.initial.purse) ×
    (l.seat.table_id ≡ l.initial.seat.table_id) × SeesNoMore l.initial.seat.me l.seat.me × (at_of l.seat.me.0 ≡ Some (l.id, Ready)) × Reaches g.Q.Asks.step l.initial.f l.f
