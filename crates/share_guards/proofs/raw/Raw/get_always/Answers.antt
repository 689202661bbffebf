use Rattle.share_guards.proofs.Replies.{plain_old}
use Rattle.spec_olc.specs.declared.types.Op.TheVariants.{Get}
use Rattle.share_guards.proofs.raw.Raw.get_always.Goals as goal

pub returns : goal.returns
returns g c =
    record { made = plain_old _ _ _ _ c.args.guard.now c.call_always-reply.new.guard (Get c.args.key) c.old_in.result c.call_always-reply.result (λ a asked h. h) c.old_in.ensures c.call_always-reply.ensures.made }
