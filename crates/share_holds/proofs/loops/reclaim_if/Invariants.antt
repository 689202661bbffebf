-- No more is seen, and the number stays.
use Rattle.std.proofs.Common.{◌≡◌}
use Rattle.share_holds.specs.inner.Events.{KnowsOf}
use Rattle.share_rule.specs.inner.Steps.{at_of}
use Rattle.share_holds.proofs.loops.reclaim_if.Given as goal

abbrev pub invariant-loop : goal.invariant-loop
invariant-loop g l = (l.seat.table_id ≡ l.initial.seat.table_id) × KnowsOf (at_of l.initial.seat.me.0) l.initial.seat.me l.seat.me
