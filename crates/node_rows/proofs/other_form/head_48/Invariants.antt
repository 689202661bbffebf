use Rattle.std.proofs.Common.{◌≡◌, ◌+◌, ◌++◌, length, take}
use Rattle.node_base.specs.Rest.{rest}
use Rattle.node_base.specs.inner.Sorted.{pairs}
use Rattle.node_base.specs.declared.base_node.NodeType.TheVariants.{N48}
use Rattle.node_rows.proofs.GrowLaws.{bytes_of}
use Rattle.node_rows.proofs.other_form.head_48.Given as goal

abbrev pub invariant-bytes : goal.invariant-bytes
invariant-bytes g l =
    (bytes_of (pairs l.old.keys l.row.items) ≡ take l.head.base.count l.head.keys ++ bytes_of (rest l.children))
    × (l.head.base.count + length (rest l.children) ≡ length (pairs l.old.keys l.row.items))
    × (length l.head.keys ≡ 48)
    × (l.head.base.prefix ≡ l.old.base.prefix)
    × (l.head.base.form ≡ N48)

abbrev pub decreases-bytes : goal.decreases-bytes
decreases-bytes g l = length (rest l.children)
