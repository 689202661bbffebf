use Rattle.share_guards.proofs.Replies.{plain_old}
use Rattle.spec_olc.specs.declared.types.Op.TheVariants.{Get}
use Rattle.share_guards.proofs.raw.Raw.get.Goals as goal

pub returns-clause-made : goal.returns-clause-made
returns-clause-made g c = plain_old _ _ _ _ c.args.guard.now c.call.new.guard (Get c.args.key) c.old_in.result c.in_ok-reply.reply (λ a asked h. h) c.old_in.ensures c.in_ok-reply.ensures.made
