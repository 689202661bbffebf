use Rattle.std.proofs.Common.{sym, ◌∙◌}
use Rattle.share_tree.proofs.Mapped.{mapped_itself}
use Rattle.share_tree.proofs.ordered.DirectU64Ordered.law_contains.Goals as goal

pub returns-clause-content : goal.returns-clause-content
returns-clause-content g c = sym (mapped_itself c.args.self.now.pairs)

pub returns-clause-only : goal.returns-clause-only
returns-clause-only g c = λ m is. is ∙ mapped_itself c.args.self.now.pairs
