use Rattle.std.proofs.Common.{◌≡◌, ◌-◌, ◌≤◌, map, slice_index}
use Rattle.std.specs.Int.{from_be_bytes, w64}
use Rattle.tree_path.specs.inner.Root.{tree_pairs}
use Rattle.tree_path.specs.inner.Supply.{Alike}
use Rattle.tree_edit.specs.inner.Run.{HasAsked, IsAtPair}
use Rattle.tree_links.specs.SeenTable.{name_of}
use Rattle.tree_edit.proofs.kept_run.keep_beside.Given as goal

abbrev pub invariant-run : goal.invariant-run
invariant-run g l =
    IsAtPair l.nodes.table (name_of (slice_index l.trail 0)) l.supply.forms l.count l.last (map name_of l.trail) l.spot
    × HasAsked g.R.Asker.step l.fn.f (tree_pairs l.fn.nodes.table (name_of (slice_index l.trail 0))) l.start l.f (tree_pairs l.nodes.table (name_of (slice_index l.trail 0))) (from_be_bytes w64 l.last)
    × (from_be_bytes w64 l.fn.key ≤ from_be_bytes w64 l.last)
    × Alike g.A.Allocator.charge l.fn.supply l.supply
    × g.R.Asker.ready l.f

abbrev pub decreases-run : goal.decreases-run
decreases-run g l = 256 - slice_index l.last 7
