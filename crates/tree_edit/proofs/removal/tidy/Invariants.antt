use Rattle.std.proofs.Common.{◌≤◌, map, slice_index}
use Rattle.node_table.specs.Table.{NodeTable}
use Rattle.tree_links.specs.SeenTable.{name_of}
use Rattle.tree_path.specs.declared.supply.FormCounts.{FormCounts}
use Rattle.tree_path.specs.inner.Supply.{Alike}
use Rattle.tree_edit.specs.inner.Rise.{HasRisen, IsWholeBefore}
use Rattle.tree_edit.proofs.removal.tidy.Given as goal

abbrev pub invariant-up : goal.invariant-up
invariant-up g l =
    (l.at ≤ l.above)
    × ((s : NodeTable g.row.P.Denot) (forms : FormCounts)
    → IsWholeBefore s (name_of (slice_index l.trail 0)) l.key (map name_of l.trail) l.above forms
    → HasRisen s (name_of (slice_index l.trail 0)) l.key l.fn.nodes.table (name_of (slice_index l.trail l.above)) l.above forms l.fn.supply.forms
    → HasRisen s (name_of (slice_index l.trail 0)) l.key l.nodes.table (name_of (slice_index l.trail l.at)) l.at forms l.supply.forms)
    × Alike g.A.Allocator.charge l.fn.supply l.supply

abbrev pub decreases-up : goal.decreases-up
decreases-up g l = l.at
