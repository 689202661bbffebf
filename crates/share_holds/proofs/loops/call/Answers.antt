use Rattle.std.proofs.Common.{inr, subst, ◌∙◌}
use Rattle.atomic_table.specs.Seated.{TableId}
use Rattle.share_holds.specs.Replies.{reply_tried}
use Rattle.share_holds.specs.declared.tried.Tried.{Tried}
use Rattle.share_holds.proofs.Attempts.{calls_on, unanswered}
use Rattle.share_state.specs.Booking.{Books}
use Rattle.share_holds.proofs.loops.call.Goals as goal

pub returns-in-Replied-clause-reached : goal.returns-in-Replied-clause-reached
returns-in-Replied-clause-reached g c =
    calls_on g.Q.Asks.step c.args.f.now c.loop.f c.attempt.new.f c.loop.invariant.7 c.attempt.ensures.reached

pub returns-in-Refused-clause-reached : goal.returns-in-Refused-clause-reached
returns-in-Refused-clause-reached g c =
    calls_on g.Q.Asks.step c.args.f.now c.loop.f c.attempt.new.f c.loop.invariant.7 c.attempt.ensures.reached

pub loop-preserved : goal.loop-preserved
loop-preserved g c = (
  tt,
  tt,
  c.attempt.ensures.callable,
  subst (λ (t : Tried g.row.P.Denot). Books g.B.Purse.after c.args.op.now (reply_tried t) c.loop.purse c.attempt.new.purse) c.in-Again.is c.attempt.ensures.booked ∙ c.loop.invariant.3,
  ◌∙◌ {A = TableId} c.attempt.ensures.table c.loop.invariant.4,
  unanswered g.M.Lent.same g.M.Lent.meaning g.Q.Asks.step c.attempt.new.f c.args.op.now c.args.seat.now.me c.loop.seat.me c.attempt.new.seat.me c.attempt.result
      (inr c.in-Again.is) c.attempt.ensures.attempted c.loop.invariant.5,
  c.attempt.ensures.ready,
  calls_on g.Q.Asks.step c.args.f.now c.loop.f c.attempt.new.f c.loop.invariant.7 c.attempt.ensures.reached,
)
