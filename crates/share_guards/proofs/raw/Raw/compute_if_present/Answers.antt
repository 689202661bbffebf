use Rattle.std.proofs.Common.{refl}
use Rattle.share_guards.proofs.Replies.{reached_present, asked_present, computed_last, computed_made}
use Rattle.share_guards.proofs.raw.Raw.compute_if_present.Goals as goal

pub returns-clause-made : goal.returns-clause-made
returns-clause-made g c = computed_made _ _ _ _ c.args.guard.now c.call.new.guard c.args.key c.computed_in.result c.in_ok-reply.reply c.computed_in.ensures c.in_ok-reply.ensures.made

pub returns-clause-asked : goal.returns-clause-asked
returns-clause-asked g c =
    asked_present g.M.Lent.meaning _ c.call.new.f (λ s. s) c.call.new.f refl c.computed_in.result
    (computed_last _ _ _ _ c.args.guard.now c.call.new.guard c.args.key c.computed_in.result c.in_ok-reply.reply c.computed_in.ensures c.in_ok-reply.ensures.made)

pub returns-in_err-reply-clause-reached : goal.returns-in_err-reply-clause-reached
returns-in_err-reply-clause-reached g c = reached_present _ c.args.f.now c.call.new.f c.call.ensures.reached

pub returns-clause-reached : goal.returns-clause-reached
returns-clause-reached g c = reached_present _ c.args.f.now c.call.new.f c.call.ensures.reached
