-- Which nodes a point call reads.
use Rattle.std.specs.Prelude.{ℕ, ◌+◌, List, [], ◌∷◌, if◌then◌else◌}
use Rattle.spec_node.specs.Key.{begins}
use Rattle.node_table.specs.Table.{NodeInfo}

-- how many of the nodes are on the key's path: those to which bytes lead that begin it
abbrev pub on_path : List NodeInfo → List ℕ → ℕ
on_path [] key = 0
on_path (n ∷ nodes) key = (if begins n.edge key then 1 else 0) + on_path nodes key
