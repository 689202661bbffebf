-- The statistics of a list of nodes: the sums over the nodes by level and form. Each saturates at 2^64 - 1.
use Rattle.std.specs.Prelude.{◌≡◌, ℕ, ◌+◌, max, Bool, ◌&&◌, ◌==◌, if◌then◌else◌, List, [], ◌∷◌, length, map, count_by, sum_by, slice_get, unwrap_or}
use Rattle.node_base.specs.declared.base_node.NodeType.{NodeType}
use Rattle.node_base.specs.declared.base_node.NodeType.TheVariants.{N4, N16, N48, N256}
use Rattle.node_stats.specs.declared.levels.LevelStats.{LevelStats}
use Rattle.node_base.specs.Form.{form_place}
use Rattle.node_stats.specs.LevelCounts.{empty_level, capped}

-- a node as the statistics see it: how many nodes are above it, its form, and how many entries it has
pub record Visit : Type 0 where
  pub level : ℕ
  pub form : NodeType
  pub entries : ℕ

abbrev pub visit : ℕ → NodeType → ℕ → Visit
visit level form entries = record { level = level; form = form; entries = entries }

-- the node is on the level and of the form
abbrev pub is_at : ℕ → NodeType → Visit → Bool
is_at level form node = node.level == level && form_place node.form == form_place form

-- how many such nodes there are, and how many entries are in them
unfoldable pub count_at : ℕ → List Visit → NodeType → ℕ
count_at level nodes form = count_by (is_at level form) nodes

unfoldable pub entries_at : ℕ → List Visit → NodeType → ℕ
entries_at level nodes form =
    sum_by (λ node. if is_at level form node then node.entries else 0) nodes

-- the forms in the order in which a level has their counts
abbrev pub forms : List NodeType
forms = N4 ∷ N16 ∷ N48 ∷ N256 ∷ []

-- the counts of a level
abbrev pub level_of : ℕ → List Visit → LevelStats
level_of level nodes = record {
  nodes = map (λ form. capped (count_at level nodes form)) forms;
  entries = map (λ form. capped (entries_at level nodes form)) forms;
}

-- how many levels the nodes take up
abbrev pub height : List Visit → ℕ
height [] = 0
height (node ∷ nodes) = max (node.level + 1) (height nodes)

-- the counts at a level; those of a level past the end are 0
abbrev pub counts_at : ℕ → List LevelStats → LevelStats
counts_at level levels = unwrap_or (slice_get levels level) empty_level

-- the levels are those of the nodes, with their sums
pub record IsTally (nodes : List Visit) (levels : List LevelStats) : Type 0 where
  pub as_deep : length levels ≡ height nodes
  pub sums : (level : ℕ) → counts_at level levels ≡ level_of level nodes
