-- Nodes whose counts are given whole.
use Rattle.std.specs.Prelude.{ℕ, ◌<◌, ◌^◌, List}
use Rattle.node_base.specs.declared.base_node.NodeType.{NodeType}
use Rattle.node_stats.specs.Stats.{Visit, count_at, entries_at}

-- no count of these nodes is above 2^64 - 1, on any level and of any form
pub record NoCountSaturates (nodes : List Visit) : Type 0 where
  pub nodes_fit : (level : ℕ) (form : NodeType) → count_at level nodes form < 2 ^ 64
  pub entries_fit : (level : ℕ) (form : NodeType) → entries_at level nodes form < 2 ^ 64
