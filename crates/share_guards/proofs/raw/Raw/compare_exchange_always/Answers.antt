use Rattle.share_guards.proofs.Replies.{plain_exchanged}
use Rattle.spec_olc.specs.declared.types.Op.TheVariants.{CompareExchange}
use Rattle.share_guards.proofs.raw.Raw.compare_exchange_always.Goals as goal

pub returns : goal.returns
returns g c =
    record { made = plain_exchanged _ _ _ _ c.args.guard.now c.call_always-reply.new.guard (CompareExchange c.args.key c.args.old c.args.new) c.exchanged_in.result c.call_always-reply.result (λ a asked h. h) c.exchanged_in.ensures c.call_always-reply.ensures.made }
