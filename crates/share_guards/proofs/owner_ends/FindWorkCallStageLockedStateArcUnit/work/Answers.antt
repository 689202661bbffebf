use Rattle.std.specs.Arc.{arc_value}
use Rattle.share_works.specs.Ends.{near_of}
use Rattle.share_guards.proofs.OwnerEnds.{find_goes}
use Rattle.share_guards.proofs.owner_ends.FindWorkCallStageLockedStateArcUnit.work.Goals as goal

pub returns-clause-goes : goal.returns-clause-goes
returns-clause-goes g c =
    let x = c.args.value.now in
    find_goes g.M.Lent.same (λ s. g.M.Lent.content s.under) x (g.M.OrderedOwners.pairs x.under) c.law_owners.ensures.only (λ owner. arc_value owner)
    (near_of c.args.self.now.near) c.owner_near.result c.law_owners.ensures.content c.owner_near.ensures
