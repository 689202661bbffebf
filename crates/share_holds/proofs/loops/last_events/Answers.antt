use Rattle.std.proofs.Common.{sym, ◌∙◌}
use Rattle.spec_olc.specs.Calls.{outline_of}
use Rattle.share_holds.proofs.Attempts.{ended_by, going_by, knows_twice}
use Rattle.share_rule.proofs.Holds.{sees_no_more_twice}
use Rattle.share_holds.proofs.loops.last_events.Goals as goal

pub returns-then-ends-clause-known : goal.returns-then-ends-clause-known
returns-then-ends-clause-known g c =
    let w = c.loop.invariant.4 in
    knows_twice c.args.seat.now.me c.loop.seat.me c.last_event-outcome.new.seat.me _ c.loop.invariant.3
    (ended_by g.M.Lent.meaning c.args.id (outline_of c.args.op.now) w.0 c.loop.seat.me c.last_event-outcome.new.seat.me c.last_event-outcome.result.outcome (sym c.ends.ensures ∙ c.if-ends.true) (c.last_event-outcome.ensures.after w.0 w.1 w.2))

pub loop-preserved : goal.loop-preserved
loop-preserved g c =
    let w = c.loop.invariant.4 in
    let on = going_by g.M.Lent.meaning c.args.id (outline_of c.args.op.now) w.0 c.loop.seat.me c.last_event-outcome.new.seat.me c.last_event-outcome.result.outcome (sym c.ends.ensures ∙ c.if-ends.false) (c.last_event-outcome.ensures.after w.0 w.1 w.2) in
    (tt, tt, c.last_event-outcome.ensures.table ∙ c.loop.invariant.2, sees_no_more_twice c.args.seat.now.me c.loop.seat.me c.last_event-outcome.new.seat.me c.loop.invariant.3 on.quiet, (w.0, w.1, on.at_is))
