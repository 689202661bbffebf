-- The table as its reader sees it: an ordered map from the ids of the rows to their groups and
-- values.
use Rattle.std.specs.Prelude.{◌≡◌, ℕ, List, Option, Some, None, ◌==◌, ◌&&◌, nat_le, map, filter}
use Rattle.std.specs.Option.{option_map}
use Rattle.spec_map.specs.Map.{Pairs, lookup, put}
use Rattle.congee_table.specs.declared.table.Row.{Row}

-- each id's group and value
abbrev pub Rows : Type 0
Rows = Pairs (ℕ × ℕ)

-- what a contract sees of a table: its rows, and what the allocators of its two indexes are charged
pub record RowsView : Type 0 where
  pub rows : Rows
  pub charged : ℕ × ℕ

-- the row with this id
abbrev pub row_at : Rows → ℕ → Option Row
row_at t id = option_map (λ e. record { id = id; group = e.0; value = e.1 }) (lookup t id)

-- the row with this id is in this group
abbrev pub IsInGroup : Rows → ℕ → ℕ → Type 0
IsInGroup t id group = (value : ℕ) × (lookup t id ≡ Some (group, value))

-- the rows with the found row in this group
abbrev pub moved : Rows → ℕ → ℕ → Option (ℕ × ℕ) → Rows
moved t id group None = t
moved t id group (Some (old, value)) = put t id (group, value)

-- the rows with the row of this id, if there is one, in this group
abbrev pub regrouped : Rows → ℕ → ℕ → Rows
regrouped t id group = moved t id group (lookup t id)

-- the rows of a group from an id on, by id and value, ids ascending
abbrev pub group_rows : Rows → ℕ → ℕ → List (ℕ × ℕ)
group_rows t group from =
    map (λ e. (e.0, e.1.1)) (filter (λ e. e.1.0 == group && nat_le from e.0) t)
