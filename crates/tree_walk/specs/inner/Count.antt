-- What counting some nodes of a tree adds to the sums.
use Rattle.std.specs.Prelude.{ℕ, ◌-◌, List, ◌++◌}
use Rattle.node_stats.specs.Stats.{Visit, IsTally}
use Rattle.node_table.specs.Table.{NodeTable, nodes_at, IsTree}
use Rattle.node_stats.specs.Visits.{visits_below}
use Rattle.node_stats.specs.declared.levels.LevelStats.{LevelStats}
use Rattle.tree_path.specs.inner.Root.{depth}

-- whatever was counted before, these are counted beside it
abbrev pub AddsVisits : List Visit → List LevelStats → List LevelStats → Type 0
AddsVisits more old new = (nodes : List Visit) → IsTally nodes old → IsTally (nodes ++ more) new

module _ {P : Type 0} (s : NodeTable P) where
  -- the nodes of the subtree in a slot are counted, so many levels below the root
  abbrev pub AddsSubtree : ℕ → ℕ → List LevelStats → List LevelStats → Type 0
  AddsSubtree above slot old new =
      (q : List ℕ) → IsTree s (depth - above) q slot
      → AddsVisits (visits_below above (nodes_at s (depth - above) q slot)) old new
