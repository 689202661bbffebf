use Rattle.std.proofs.Common.{arith}
use Rattle.node_base.proofs.WordLaws.{word-cleared}
use Rattle.node_base.proofs.base_node.number_of.Goals as goal

pub returns : goal.returns
returns c = word-cleared c.args.length _ c.args.bytes.now c.told-bytes (λ k. c.fits-bytes k) c.requires c.from_be_bytes.ensures (omega (arith, c.from_be_bytes.type_inv))
