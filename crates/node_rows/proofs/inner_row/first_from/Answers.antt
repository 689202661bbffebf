use Rattle.std.proofs.Common.{sym, ◌∙◌}
use Rattle.spec_node.specs.declared.child.Child.TheVariants.{Node}
use Rattle.node_table.proofs.KindLaws.{first-mapped, none-mapped}
use Rattle.node_base.specs.inner.Sorted.{pairs}
use Rattle.node_rows.proofs.inner_row.first_from.Goals as goal

pub returns-in-None-clause-none : goal.returns-in-None-clause-none
returns-in-None-clause-none g c = none-mapped (λ child. Node child) (pairs c.args.head.now.keys c.args.row.now.items) c.args.start (sym c.children.ensures.children ∙ c.in-None.ensures.steps.0)

pub returns-in-Some-clause-some : goal.returns-in-Some-clause-some
returns-in-Some-clause-some g c = (first-mapped (λ child. Node child) (pairs c.args.head.now.keys c.args.row.now.items) c.args.start _ _ c.children.ensures.ascending (sym c.children.ensures.children ∙ c.in-Some.ensures.steps)).0

pub returns-in-Some-clause-order : goal.returns-in-Some-clause-order
returns-in-Some-clause-order g c = (first-mapped (λ child. child) (pairs c.args.head.now.keys c.args.row.now.items) c.args.start _ _ c.children.ensures.ascending (sym c.children.ensures.children ∙ c.in-Some.ensures.steps)).1
