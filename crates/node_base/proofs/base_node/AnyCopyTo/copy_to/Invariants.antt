use Rattle.std.proofs.Common.{◌≡◌, ◌++◌, length}
use Rattle.spec_map.specs.Map.{Rises}
use Rattle.node_base.proofs.base_node.AnyCopyTo.copy_to.Given as goal

abbrev pub invariant-loop-byte : goal.invariant-loop-byte
invariant-loop-byte g l =
    Rises l.at 256 (g.A.Node.children l.self)
    × Rises 0 256 (g.N.Node.children l.dst ++ g.A.Node.children l.self)
    × (g.N.Node.children l.dst ++ g.A.Node.children l.self ≡ g.A.Node.children l.fn.self)
    × (g.N.Node.prefix l.dst ≡ g.N.Node.prefix l.initial.dst)
    × (g.N.Node.form l.dst ≡ g.N.Node.form l.initial.dst)

abbrev pub decreases-loop-byte : goal.decreases-loop-byte
decreases-loop-byte g l = length (g.A.Node.children l.self)
