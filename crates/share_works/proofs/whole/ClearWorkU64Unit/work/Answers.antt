use Rattle.std.proofs.Common.{rules}
use Rattle.share_works.proofs.Counting.{clear_goes}
use Rattle.share_works.proofs.whole.ClearWorkU64Unit.work.Goals as goal

pub returns-clause-goes : goal.returns-clause-goes
returns-clause-goes g c =
    let x = c.args.value.now in
    clear_goes g.S.Protected.same g.S.Protected.content x (g.S.MapState.pairs x) c.law_contains.ensures.only _ _
    c.law_contains-2.ensures.content (search rules)
