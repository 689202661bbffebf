use Rattle.std.proofs.Common.{◌≡◌, ◌++◌, List, length, drop}
use Rattle.node_base.specs.inner.Sorted.{pairs}
use Rattle.node_rows.proofs.other_form.larger_256.Given as goal

abbrev pub invariant-children : goal.invariant-children
invariant-children g l =
    ((done : List g.row.C.Denot) × (l.initial.row.items ≡ l.row.items ++ done) × (l.node.children ≡ pairs (drop (length l.row.items) l.old.keys) done))
    × (l.node.prefix ≡ l.old.base.prefix)

abbrev pub decreases-children : goal.decreases-children
decreases-children g l = length l.row.items
