-- The statistics of a tree.
use Rattle.std.specs.Prelude.{◌≡◌, ◌+◌, ◌<◌, ◌^◌, length}
use Rattle.node_stats.specs.LevelCounts.{capped}
use Rattle.node_stats.specs.Stats.{IsTally}
use Rattle.node_stats.specs.StatsText.{all_nodes, all_entries}
use Rattle.node_stats.specs.Stays.{NoCountSaturates}
use Rattle.node_stats.specs.Visits.{visits_below}
use Rattle.node_stats.specs.declared.NodeStats.{NodeStats}
use Rattle.tree_edit.specs.Tree.{TreeView}

-- they count the nodes by level and form, and the pairs
pub record AreStatsOf {P A : Type 0} (tree : TreeView P A) (stats : NodeStats) : Type 0 where
  pub levels : IsTally (visits_below 0 tree.nodes) stats.levels
  pub pairs : stats.kv_pairs ≡ capped (length tree.pairs)
  -- each entry of a node is a pair or leads to a node, and none leads to the root
  pub entries : NoCountSaturates (visits_below 0 tree.nodes) → length tree.pairs < 2 ^ 64
      → all_entries stats.levels + 1 ≡ stats.kv_pairs + all_nodes stats.levels
