-- The counts of one level.
use Rattle.std.specs.Prelude.{ℕ, min, [], ◌∷◌, slice_index}
use Rattle.node_base.specs.Form.{form_place}
use Rattle.node_base.specs.declared.base_node.NodeType.{NodeType}
use Rattle.node_stats.specs.declared.levels.LevelStats.{LevelStats}

-- how many nodes of a form a level has, and how many entries are in them: the forms in the order of their sizes
abbrev pub node_count : NodeType → LevelStats → ℕ
node_count form level = slice_index level.nodes (form_place form)

abbrev pub entry_count : NodeType → LevelStats → ℕ
entry_count form level = slice_index level.entries (form_place form)

-- a level without nodes
abbrev pub empty_level : LevelStats
empty_level = record { nodes = 0 ∷ 0 ∷ 0 ∷ 0 ∷ []; entries = 0 ∷ 0 ∷ 0 ∷ 0 ∷ [] }

-- a count saturates at the maximum of `u64`
abbrev pub capped : ℕ → ℕ
capped n = min n 18446744073709551615
