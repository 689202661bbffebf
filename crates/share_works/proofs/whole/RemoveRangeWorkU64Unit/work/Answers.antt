use Rattle.share_works.proofs.Removing.{removal_goes}
use Rattle.share_works.proofs.whole.RemoveRangeWorkU64Unit.work.Goals as goal

pub returns-clause-goes : goal.returns-clause-goes
returns-clause-goes g c =
    let x = c.args.value.now in let y = c.remove_range-self.new.self in
    removal_goes g.S.Protected.same g.S.Protected.content x (g.S.MapState.pairs x) c.law_contains.ensures.only y (g.S.MapState.pairs y)
    c.args.self.now.start c.args.self.now.end c.law_contains-2.ensures.content c.remove_range-self.ensures.pairs
