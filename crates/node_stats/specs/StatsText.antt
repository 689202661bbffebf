-- The text of the statistics.
use Rattle.std.specs.Prelude.{ℕ, ◌+◌, ◌*◌, ◌/◌, List, [], ◌∷◌, ◌++◌, take, sum_by, nat_lt, if◌then◌else◌, codes, unwrap_or}
use Rattle.std.specs.Fmt.{decimal}
use Rattle.node_base.specs.declared.base_node.NodeType.{NodeType}
use Rattle.node_base.specs.declared.base_node.NodeType.TheVariants.{N4, N16, N48, N256}
use Rattle.node_stats.specs.declared.levels.LevelStats.{LevelStats}
use Rattle.node_stats.specs.declared.NodeStats.{NodeStats}
use Rattle.node_base.specs.Form.{limit, stated_size}
use Rattle.node_stats.specs.Fractions.{hundredths, with_two_decimals, right_aligned}
use Rattle.node_stats.specs.LevelCounts.{node_count, entry_count}

abbrev pub form_name : NodeType → List ℕ
form_name N4 = codes "N4"
form_name N16 = codes "N16"
form_name N48 = codes "N48"
form_name N256 = codes "N256"

-- how many children a node of the form has room for; the largest form has a place for each byte
abbrev pub form_capacity : NodeType → ℕ
form_capacity form = unwrap_or (limit form) 256

-- the load factor of a form on a level: its entries over the capacity of its nodes
abbrev pub form_factor : NodeType → LevelStats → ℕ
form_factor form level =
    hundredths (entry_count form level) (form_capacity form * node_count form level)

-- a form's part of a level's line
unfoldable pub form_text : NodeType → LevelStats → List ℕ
form_text form level = form_name form ++ (codes ": "
    ++ (right_aligned 8 (decimal (node_count form level))
    ++ (codes ", " ++ right_aligned 8 (with_two_decimals (form_factor form level)))))

-- a level's line
unfoldable pub level_line : ℕ → LevelStats → List ℕ
level_line number level = codes "Level: " ++ (decimal number ++ (codes " --- || "
    ++ (form_text N4 level ++ (codes " || " ++ (form_text N16 level ++ (codes " || "
    ++ (form_text N48 level ++ (codes " || " ++ (form_text N256 level ++ codes " ||\n")))))))))

-- the lines of the levels from a number on
abbrev pub level_lines_from : ℕ → List LevelStats → List ℕ
level_lines_from number [] = []
level_lines_from number (level ∷ levels) =
    level_line number level ++ level_lines_from (number + 1) levels

-- the nodes and the entries of a form, over all levels
abbrev pub node_sum : NodeType → List LevelStats → ℕ
node_sum form levels = sum_by (node_count form) levels

abbrev pub entry_sum : NodeType → List LevelStats → ℕ
entry_sum form levels = sum_by (entry_count form) levels

abbrev pub all_nodes : List LevelStats → ℕ
all_nodes levels =
    node_sum N4 levels + node_sum N16 levels + node_sum N48 levels + node_sum N256 levels

abbrev pub all_entries : List LevelStats → ℕ
all_entries levels =
    entry_sum N4 levels + entry_sum N16 levels + entry_sum N48 levels + entry_sum N256 levels

-- the sizes that the nodes are charged
abbrev pub all_bytes : List LevelStats → ℕ
all_bytes levels = stated_size N4 * node_sum N4 levels + stated_size N16 * node_sum N16 levels
    + stated_size N48 * node_sum N48 levels + stated_size N256 * node_sum N256 levels

-- The overall load factor is the mean, over all nodes, of the part of its capacity that a node uses. Both sides of the
-- fraction are multiplied by 768: 192 is 768 / 4, 48 is 768 / 16, 16 is 768 / 48, and 3 is 768 / 256.
abbrev pub load : List LevelStats → ℕ
load levels = 192 * entry_sum N4 levels + 48 * entry_sum N16 levels
    + 16 * entry_sum N48 levels + 3 * entry_sum N256 levels

abbrev pub full_load : List LevelStats → ℕ
full_load levels = 768 * all_nodes levels

abbrev pub counts_line : ℕ → ℕ → List ℕ
counts_line nodes entries = codes "Overall node count: " ++ (decimal nodes
    ++ (codes ", entry count: " ++ (decimal entries ++ codes "\n")))

-- what follows a load factor below one half
abbrev pub too_low : ℕ → ℕ → List ℕ
too_low load full_load = if nat_lt (2 * load) full_load then codes " (too low)" else []

abbrev pub load_line : ℕ → ℕ → List ℕ
load_line load full_load = codes "Load factor: " ++ (with_two_decimals (hundredths load full_load)
    ++ (too_low load full_load ++ codes "\n"))

abbrev pub memory_line : ℕ → List ℕ
memory_line bytes = codes "Active memory usage: " ++ (decimal (bytes / 1048576) ++ codes " Mb\n")

abbrev pub pairs_line : ℕ → List ℕ
pairs_line pairs = codes "KV count: " ++ (decimal pairs ++ codes "\n")

-- the last four lines
abbrev pub four_lines : ℕ → ℕ → ℕ → ℕ → ℕ → ℕ → List ℕ
four_lines nodes entries load full_load bytes pairs =
    counts_line nodes entries
    ++ (load_line load full_load ++ (memory_line bytes ++ pairs_line pairs))

abbrev pub last_lines : List LevelStats → ℕ → List ℕ
last_lines levels pairs =
    four_lines (all_nodes levels) (all_entries levels) (load levels) (full_load levels)
    (all_bytes levels) pairs

-- a tree has at most eight levels, and those after the eighth are left out of lines and sums
abbrev pub shown_levels : List LevelStats → List LevelStats
shown_levels levels = take 8 levels

-- the whole text
abbrev pub stats_text : NodeStats → List ℕ
stats_text stats =
    level_lines_from 0 (shown_levels stats.levels)
    ++ last_lines (shown_levels stats.levels) stats.kv_pairs
