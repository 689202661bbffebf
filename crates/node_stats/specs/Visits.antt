-- The nodes of a tree as the statistics see them.
use Rattle.std.specs.Prelude.{ℕ, ◌+◌, Bool, ◌&&◌, List, length, map, nat_lt, count_by}
use Rattle.spec_node.specs.Key.{begins}
use Rattle.node_table.specs.Table.{NodeInfo}
use Rattle.node_stats.specs.Stats.{Visit, visit}

-- whether bytes begin with these and go on
abbrev pub goes_on : List ℕ → List ℕ → Bool
goes_on p bytes = nat_lt (length p) (length bytes) && begins p bytes

-- how many nodes of the list are above a node: the bytes that lead to it go on from theirs
unfoldable pub nodes_above : List NodeInfo → NodeInfo → ℕ
nodes_above nodes n = count_by (λ m. goes_on m.edge n.edge) nodes

-- the nodes of a part of a tree that has so many nodes above it
abbrev pub visits_below : ℕ → List NodeInfo → List Visit
visits_below above nodes = map (λ n. visit (above + nodes_above nodes n) n.form n.count) nodes
