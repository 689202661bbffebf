use Rattle.std.proofs.Common.{◌≡◌, length}
use Rattle.node_base.specs.Rest.{rest_4}
use Rattle.tree_walk.proofs.backward.last_4.Given as goal

abbrev pub invariant-bytes : goal.invariant-bytes
invariant-bytes g l = rest_4 l.initial.left ≡ rest_4 l.left

abbrev pub decreases-bytes : goal.decreases-bytes
decreases-bytes g l = length l.left.keys.now
