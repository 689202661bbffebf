use Rattle.share_guards.proofs.Replies.{plain_old}
use Rattle.spec_olc.specs.declared.types.Op.TheVariants.{Remove}
use Rattle.share_guards.proofs.raw.Raw.remove_always.Goals as goal

pub returns-clause-made : goal.returns-clause-made
returns-clause-made g c = plain_old _ _ _ _ c.args.guard.now c.call_always-reply.new.guard (Remove c.args.key) c.old_in.result c.call_always-reply.result (λ a asked h. h) c.old_in.ensures c.call_always-reply.ensures.made
