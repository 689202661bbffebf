use Rattle.share_faces.proofs.Numbers.{returns_stored}
use Rattle.share_faces.proofs.typed_congee.Congee.compare_exchange.Goals as goal

pub returns-in-Ok-clause-made : goal.returns-in-Ok-clause-made
returns-in-Ok-clause-made g c =
    rw (← c.into_u64.ensures, ← c.into_u64-2.ensures) (returns_stored c.args.guard.now c.compare_exchange_always.new.guard g.M.Lent.same g.M.Lent.meaning c.self.invariant.1 c.self.invariant.2
    g.V.Word.number g.V.Word.of_number _ _ c.args.new c.numbered-wanted.result c.numbered-wanted.ensures c.compare_exchange_always.result c.in-Ok.field-0 c.in-Ok.is c.compare_exchange_always.ensures.made)
