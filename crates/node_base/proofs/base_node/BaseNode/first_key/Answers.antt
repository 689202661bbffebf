use Rattle.std.proofs.Common.{ap, ◌∙◌}
use Rattle.node_base.proofs.WordLaws.{cleared_prefix}
use Rattle.node_base.proofs.base_node.BaseNode.first_key.Goals as goal

pub returns : goal.returns
returns c = c.number_of.ensures ∙ cleared_prefix _ c.self.inside.bytes c.args.self.now.prefix c.self.told.0 c.self.invariant.0 (ap (λ v. v.prefix) c.self.view_is)
