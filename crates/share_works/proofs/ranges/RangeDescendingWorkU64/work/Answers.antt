use Rattle.std.proofs.Common.{◌+◌}
use Rattle.share_works.proofs.Writing.{listing_goes}
use Rattle.share_works.proofs.ranges.RangeDescendingWorkU64.work.Goals as goal

pub returns-clause-goes : goal.returns-clause-goes
returns-clause-goes g c =
    let x = c.args.value.now in
    listing_goes g.S.Protected.same g.S.Protected.content x (g.S.MapState.pairs x) c.law_contains.ensures.only c.law_contains.ensures.content
    c.args.self.now.start (c.args.self.now.last + 1)
