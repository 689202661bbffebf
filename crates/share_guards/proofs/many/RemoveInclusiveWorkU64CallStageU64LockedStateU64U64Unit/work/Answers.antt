use Rattle.std.proofs.Common.{◌+◌}
use Rattle.share_works.proofs.Removing.{removal_goes}
use Rattle.share_guards.proofs.many.RemoveInclusiveWorkU64CallStageU64LockedStateU64U64Unit.work.Goals as goal

pub returns-clause-goes : goal.returns-clause-goes
returns-clause-goes g c =
    let x = c.args.value.now in let y = c.remove_range_inclusive-self.new.self in
    removal_goes g.M.Lent.same (λ s. g.M.Lent.content s.under) x (g.M.Ordered.pairs x.under) c.law_contains.ensures.only y (g.M.Ordered.pairs y.under)
    c.args.self.now.start (c.args.self.now.last + 1) c.law_contains-2.ensures.content c.remove_range_inclusive-self.ensures.pairs
