use Rattle.std.proofs.Common.{sym}
use Rattle.share_tree.proofs.Mapped.{mapped_itself}
use Rattle.share_tree.proofs.numbers.DirectU64Pages.page.Goals as goal

pub returns-clause-written : goal.returns-clause-written
returns-clause-written g c =
    (c.args.self.now.pairs, sym (mapped_itself c.args.self.now.pairs), c.page_of.ensures.ordered, (c.page_of.ensures.count, c.page_of.ensures.written))
