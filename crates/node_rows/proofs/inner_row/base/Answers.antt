use Rattle.std.proofs.Common.{sym, ◌∙◌}
use Rattle.spec_node.specs.declared.child.Child.TheVariants.{Node}
use Rattle.spec_node.specs.declared.child.Child.{Child as ChildOf}
use Rattle.node_table.proofs.KindLaws.{length-mapped, Rises-mapped}
use Rattle.node_base.specs.inner.Sorted.{pairs}
use Rattle.node_rows.proofs.inner_row.base.Goals as goal

pub returns-clause-count : goal.returns-clause-count
returns-clause-count g c = c.base_of.ensures.count ∙ sym (length-mapped {D = ChildOf g.row.P.Denot g.row.C.Denot} (λ child. Node child) (pairs c.args.head.now.keys c.args.row.now.items))

pub returns-clause-within : goal.returns-clause-within
returns-clause-within g c = rw (length-mapped {D = ChildOf g.row.P.Denot g.row.C.Denot} (λ child. Node child) (pairs c.args.head.now.keys c.args.row.now.items)) c.base_of.ensures.within

pub returns-clause-ascending : goal.returns-clause-ascending
returns-clause-ascending g c = Rises-mapped (λ child. Node child) 0 256 (pairs c.args.head.now.keys c.args.row.now.items) c.base_of.ensures.ascending
