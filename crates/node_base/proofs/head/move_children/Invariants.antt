use Rattle.std.proofs.Common.{◌≡◌, ◌++◌, length}
use Rattle.spec_map.specs.Map.{Rises}
use Rattle.node_base.proofs.head.move_children.Given as goal

abbrev pub invariant-loop-byte : goal.invariant-loop-byte
invariant-loop-byte g l =
    Rises l.at 256 (g.A.Head.children l.old l.old_row)
    × Rises 0 256 (g.B.Head.children l.new l.new_row ++ g.A.Head.children l.old l.old_row)
    × (g.B.Head.children l.new l.new_row ++ g.A.Head.children l.old l.old_row ≡ g.A.Head.children l.initial.old l.initial.old_row)
    × (g.B.Head.prefix l.new ≡ g.B.Head.prefix l.initial.new)
    × (g.B.Head.form l.new ≡ g.B.Head.form l.initial.new)
    × (g.A.Head.prefix l.old ≡ g.A.Head.prefix l.initial.old)
    × (g.A.Head.form l.old ≡ g.A.Head.form l.initial.old)
    × g.A.Head.IsNode l.old l.old_row
    × g.B.Head.IsNode l.new l.new_row

abbrev pub decreases-loop-byte : goal.decreases-loop-byte
decreases-loop-byte g l = length (g.A.Head.children l.old l.old_row)
