use Rattle.std.proofs.Common.{ap, arith}
use Rattle.node_base.specs.declared.base_node.NodeType.TheVariants.{N4}
use Rattle.tree_path.specs.inner.Supply.{count}
use Rattle.tree_edit.proofs.insertion.make_two.Goals as goal

pub charge-requires-2 : goal.charge-requires-2
charge-requires-2 g c = omega (arith, c.requires.few N4, ap (count N4) c.in_ok-charge.ensures.ok.forms)
