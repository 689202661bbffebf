use Rattle.std.proofs.Common.{◌+◌, ◌-◌, ◌≤◌}
use Rattle.spec_map.specs.Map.{between}
use Rattle.tree_links.specs.Places.{as_linked}
use Rattle.tree_links.specs.SeenTable.{name_of}
use Rattle.tree_walk.proofs.BytesLeft.{bytes_left}
use Rattle.tree_walk.proofs.ScanLaws.{all_entries}
use Rattle.tree_walk.proofs.InsideLaws.{Walk}
use Rattle.tree_walk.proofs.range_scan.+scan.Given as goal

abbrev pub decreases-scan : goal.decreases-scan
decreases-scan g l = bytes_left l.nodes.now.table (name_of l.slot)

abbrev pub invariant-parts : goal.invariant-parts
invariant-parts g l =
    record {
      walk : Walk g.E.RangeEntry.entry l.start (l.last + 1) l.nodes.table l.slot (as_linked l.node) (λ less. all_entries g.E.RangeEntry.entry l.start (l.last + 1) l.nodes.table less (name_of l.slot)) (between (as_linked l.node).links l.from l.window.to) l.initial.buffer l.initial.count l.buffer l.count;
      begun : l.window.from ≤ l.from;
    }

abbrev pub decreases-parts : goal.decreases-parts
decreases-parts g l = l.window.to - l.from
