use Rattle.share_guards.proofs.Replies.{reached_always, asked_always, inserted_asked, inserted_made}
use Rattle.share_guards.proofs.raw.Raw.compute_or_insert.Goals as goal

pub returns-clause-made : goal.returns-clause-made
returns-clause-made g c =
    let made = c.in_ok-reply.ensures.made in
    let asked = inserted_asked _ _ _ _ c.args.guard.now c.call.new.guard c.args.key c.args.otherwise c.old_in.result c.in_ok-reply.reply c.old_in.ensures made in (
      asked.0,
      inserted_made _ _ _ _ c.args.guard.now c.call.new.guard c.args.key c.args.otherwise c.old_in.result c.in_ok-reply.reply c.old_in.ensures made,
      asked_always g.M.Lent.meaning _ (λ s. s) c.call.new.f c.args.key c.args.otherwise _ asked.0 made.asked made.last_call asked.1,
    )

pub returns-in_err-reply-clause-reached : goal.returns-in_err-reply-clause-reached
returns-in_err-reply-clause-reached g c = reached_always _ c.args.f.now c.call.new.f c.call.ensures.reached

pub returns-clause-reached : goal.returns-clause-reached
returns-clause-reached g c = reached_always _ c.args.f.now c.call.new.f c.call.ensures.reached
