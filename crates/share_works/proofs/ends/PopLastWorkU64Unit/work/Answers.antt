use Rattle.share_works.proofs.Popping.{last_goes}
use Rattle.share_works.proofs.ends.PopLastWorkU64Unit.work.Goals as goal

pub returns-clause-goes : goal.returns-clause-goes
returns-clause-goes g c =
    let x = c.args.value.now in let y = c.pop_last-self.new.self in
    last_goes g.S.Protected.same g.S.Protected.content x (g.S.MapState.pairs x) c.law_contains.ensures.only y (g.S.MapState.pairs y)
    c.pop_last-self.result c.law_contains.ensures.ordered c.law_contains-2.ensures.content c.pop_last-self.ensures.pair c.pop_last-self.ensures.pairs
