use Rattle.share_holds.proofs.Founds.{page_range}
use Rattle.share_guards.proofs.range.Raw+L+u64+u64+M.range.Goals as goal

pub returns-in-Some-clause-written : goal.returns-in-Some-clause-written
returns-in-Some-clause-written g c =
    page_range g.M.Lent.same c.args.guard.now.seen g.E.RangeEntry.entry c.args.start c.args.end c.args.buffer.now c.in-Some.found c.page.new.buffer c.in-Some.ensures.written
