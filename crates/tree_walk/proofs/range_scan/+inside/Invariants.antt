use Rattle.std.proofs.Common.{◌+◌, ◌*◌, length}
use Rattle.node_base.specs.Rest.{rest_4, rest_16, rest_48, rest_256}
use Rattle.tree_links.specs.Places.{as_linked}
use Rattle.tree_links.specs.SeenTable.{name_of}
use Rattle.tree_walk.specs.inner.Scan.{links_at}
use Rattle.tree_walk.proofs.BytesLeft.{bytes_left}
use Rattle.tree_walk.proofs.InsideLaws.{Inside}
use Rattle.tree_walk.proofs.range_scan.+inside.Given as goal

abbrev pub decreases-scan_inside : goal.decreases-scan_inside
decreases-scan_inside g l = 3 * bytes_left l.nodes.now.table (name_of l.slot) + 2

abbrev pub decreases-scan_places : goal.decreases-scan_places
decreases-scan_places g l = 3 * bytes_left l.nodes.now.table (name_of l._slot) + 1

abbrev pub decreases-scan_place : goal.decreases-scan_place
decreases-scan_place g l = 3 * bytes_left l.nodes.now.table (name_of l._slot)

abbrev pub invariant-scan_places-few : goal.invariant-scan_places-few
invariant-scan_places-few g l = Inside g.E.RangeEntry.entry l.nodes.table l._slot (as_linked l.node) (links_at (rest_4 l.initial.places)) (links_at (rest_4 l.places)) l.initial.buffer l.initial.count l.buffer l.count

abbrev pub invariant-scan_places-row : goal.invariant-scan_places-row
invariant-scan_places-row g l = Inside g.E.RangeEntry.entry l.nodes.table l._slot (as_linked l.node) (links_at (rest_16 l.initial.places)) (links_at (rest_16 l.places)) l.initial.buffer l.initial.count l.buffer l.count

abbrev pub invariant-scan_places-index : goal.invariant-scan_places-index
invariant-scan_places-index g l = Inside g.E.RangeEntry.entry l.nodes.table l._slot (as_linked l.node) (links_at (rest_48 l.initial.places)) (links_at (rest_48 l.places)) l.initial.buffer l.initial.count l.buffer l.count

abbrev pub invariant-scan_places-cells : goal.invariant-scan_places-cells
invariant-scan_places-cells g l = Inside g.E.RangeEntry.entry l.nodes.table l._slot (as_linked l.node) (links_at (rest_256 l.initial.places)) (links_at (rest_256 l.places)) l.initial.buffer l.initial.count l.buffer l.count

abbrev pub decreases-scan_places-few : goal.decreases-scan_places-few
decreases-scan_places-few g l = length (rest_4 l.places)

abbrev pub decreases-scan_places-row : goal.decreases-scan_places-row
decreases-scan_places-row g l = length (rest_16 l.places)

abbrev pub decreases-scan_places-index : goal.decreases-scan_places-index
decreases-scan_places-index g l = length (rest_48 l.places)

abbrev pub decreases-scan_places-cells : goal.decreases-scan_places-cells
decreases-scan_places-cells g l = length (rest_256 l.places)
