use Rattle.std.specs.Arc.{arc_value}
use Rattle.share_guards.proofs.OwnerEnds.{last_goes}
use Rattle.share_guards.proofs.owner_ends.PopLastWorkCallStageLockedStateArcUnit.work.Goals as goal

pub returns-clause-goes : goal.returns-clause-goes
returns-clause-goes g c =
    let x = c.args.value.now in let y = c.pop_last.new.self in
    last_goes g.M.Lent.same (λ s. g.M.Lent.content s.under) x (g.M.OrderedOwners.pairs x.under) c.law_owners.ensures.only (λ owner. arc_value owner)
    y (g.M.OrderedOwners.pairs y.under) c.pop_last.result c.law_owners.ensures.ordered c.law_owners-2.ensures.content c.pop_last.ensures.pair c.pop_last.ensures.pairs
