use Rattle.std.proofs.Common.{ap}
use Rattle.node_base.proofs.WordLaws.{alike_begins}
use Rattle.node_base.proofs.base_node.BaseNode.begins.Goals as goal

pub returns : goal.returns
returns c = alike_begins _ c.self.inside.bytes _ c.args.self.now.prefix c.self.told.0 c.self.invariant.0 (ap (λ v. v.prefix) c.self.view_is) c.begin_alike.ensures
