use Rattle.std.proofs.Common.{sym, ◌∙◌}
use Rattle.spec_node.specs.declared.child.Child.TheVariants.{Payload}
use Rattle.spec_node.specs.declared.child.Child.{Child as ChildOf}
use Rattle.node_table.proofs.KindLaws.{length-mapped, Rises-mapped}
use Rattle.node_table.proofs.kinds.LeafInTable.base.Goals as goal

pub returns-clause-count : goal.returns-clause-count
returns-clause-count g c = c.base.ensures.count ∙ sym (length-mapped {D = ChildOf g.row.P.Denot g.row.C.Denot} (λ v. Payload v) (g.H.Head.children c.args.self.now.head c.args.row.now))

pub returns-clause-within : goal.returns-clause-within
returns-clause-within g c = rw (length-mapped {D = ChildOf g.row.P.Denot g.row.C.Denot} (λ v. Payload v) (g.H.Head.children c.args.self.now.head c.args.row.now)) c.base.ensures.within

pub returns-clause-ascending : goal.returns-clause-ascending
returns-clause-ascending g c = Rises-mapped (λ v. Payload v) 0 256 (g.H.Head.children c.args.self.now.head c.args.row.now) c.base.ensures.ascending
