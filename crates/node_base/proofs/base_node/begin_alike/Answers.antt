use Rattle.node_base.proofs.WordLaws.{shifts_alike}
use Rattle.node_base.proofs.base_node.begin_alike.Goals as goal

pub returns : goal.returns
returns c = shifts_alike c.args.length c.args.key _ c.args.bytes.now c.told-bytes (λ k. c.fits-bytes k) c.requires c.ranges.key.fits c.from_be_bytes.ensures
