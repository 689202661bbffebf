-- What a call returns that adds up what a map is charged.
use Rattle.std.specs.Prelude.{◌≡◌, ℕ, List, length}
use Rattle.node_table.specs.Charge.{BudgetView}
use Rattle.share_rule.specs.Known.{Known, MadeCall}
use Rattle.share_visits.specs.Charged.{IsChargeOfAll, sum_of}
use Rattle.share_works.specs.Made.{returned}
use Rattle.spec_map.specs.Call.{count, counted}
use Rattle.spec_olc.specs.Runs.{same_number}
use Rattle.tree_edit.specs.Tree.{TreeView}
use Rattle.tree_edit.specs.TreeCalls.{IsChargeOf}

-- THE CALL returned what the trees of one moment are charged, one for each shard. Their pairs were counted then
abbrev pub IsCharged : Known ℕ → ℕ → Known ℕ → Type 0
IsCharged k bytes n =
    (trees : List (TreeView ℕ BudgetView)) × (length trees ≡ k.table.slots)
    × MadeCall same_number k (returned count (counted (sum_of (λ (tree : TreeView ℕ BudgetView). length tree.pairs) trees))) n
    × IsChargeOfAll IsChargeOf trees bytes
