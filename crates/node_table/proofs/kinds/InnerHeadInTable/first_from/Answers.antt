use Rattle.std.proofs.Common.{sym, ◌∙◌}
use Rattle.spec_node.specs.declared.child.Child.TheVariants.{Node}
use Rattle.node_table.proofs.KindLaws.{first-mapped, none-mapped}
use Rattle.node_table.proofs.kinds.InnerHeadInTable.first_from.Goals as goal

pub returns-in-None-clause-none : goal.returns-in-None-clause-none
returns-in-None-clause-none g c = none-mapped (λ child. Node child) (g.H.Head.children c.args.self.now.head c.args.row.now) c.args.start (sym c.get_children.ensures.children ∙ c.in-None.ensures.steps.0)

pub returns-in-Some-clause-some : goal.returns-in-Some-clause-some
returns-in-Some-clause-some g c = (first-mapped (λ child. Node child) (g.H.Head.children c.args.self.now.head c.args.row.now) c.args.start _ _ c.get_children.ensures.ascending (sym c.get_children.ensures.children ∙ c.in-Some.ensures.steps)).0

pub returns-in-Some-clause-order : goal.returns-in-Some-clause-order
returns-in-Some-clause-order g c = (first-mapped (λ child. child) (g.H.Head.children c.args.self.now.head c.args.row.now) c.args.start _ _ c.get_children.ensures.ascending (sym c.get_children.ensures.children ∙ c.in-Some.ensures.steps)).1
