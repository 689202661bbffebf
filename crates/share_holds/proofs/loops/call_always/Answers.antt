use Rattle.std.proofs.Common.{subst, ◌∙◌}
use Rattle.atomic_table.specs.Seated.{TableId}
use Rattle.share_holds.specs.Replies.{reply_got}
use Rattle.share_holds.proofs.Attempts.{calls_on}
use Rattle.share_rule.proofs.Holds.{sees_no_more_twice}
use Rattle.share_state.specs.Booking.{Books}
use Rattle.share_holds.proofs.loops.call_always.Goals as goal

pub returns-in-Ok-clause-reached : goal.returns-in-Ok-clause-reached
returns-in-Ok-clause-reached g c =
    calls_on g.Q.Asks.step c.args.f.now c.loop.f c.call.new.f c.loop.invariant.7 c.call.ensures.reached

pub loop-preserved : goal.loop-preserved
loop-preserved g c = (
  tt,
  tt,
  c.call.ensures.callable,
  subst (λ r. Books g.B.Purse.after c.args.op.now (reply_got r) c.loop.purse c.call.new.purse) c.in-Err.is c.call.ensures.booked ∙ c.loop.invariant.3,
  ◌∙◌ {A = TableId} c.call.ensures.table c.loop.invariant.4,
  sees_no_more_twice c.args.seat.now.me c.loop.seat.me c.call.new.seat.me c.loop.invariant.5 c.in-Err.ensures.refused,
  c.call.ensures.ready,
  calls_on g.Q.Asks.step c.args.f.now c.loop.f c.call.new.f c.loop.invariant.7 c.call.ensures.reached,
)
