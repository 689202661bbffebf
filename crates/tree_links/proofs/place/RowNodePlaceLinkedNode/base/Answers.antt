use Rattle.std.proofs.Common.{sym, ◌∙◌}
use Rattle.node_table.proofs.KindLaws.{length-mapped, Rises-mapped}
use Rattle.tree_links.specs.Places.{as_link}
use Rattle.tree_links.proofs.place.RowNodePlaceLinkedNode.base.Goals as goal

pub returns-clause-count : goal.returns-clause-count
returns-clause-count g c = c.base.ensures.count ∙ sym (length-mapped as_link c.args.self.now.children)

pub returns-clause-within : goal.returns-clause-within
returns-clause-within g c = rw (length-mapped as_link c.args.self.now.children) c.base.ensures.within

pub returns-clause-ascending : goal.returns-clause-ascending
returns-clause-ascending g c = Rises-mapped as_link 0 256 c.args.self.now.children c.base.ensures.ascending
