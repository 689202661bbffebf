-- What counting one more node does to the counts of its level.
use Rattle.std.specs.Prelude.{ℕ, ◌+◌, slice_set}
use Rattle.node_base.specs.Form.{form_place}
use Rattle.node_base.specs.declared.base_node.NodeType.{NodeType}
use Rattle.node_stats.specs.declared.levels.LevelStats.{LevelStats}
use Rattle.node_stats.specs.LevelCounts.{node_count, entry_count, capped}

-- one more node on a level
abbrev pub with_one_node : NodeType → ℕ → LevelStats → LevelStats
with_one_node form entries level = record {
  nodes = slice_set level.nodes (form_place form) (capped (node_count form level + 1));
  entries = slice_set level.entries (form_place form) (capped (entry_count form level + entries));
}
