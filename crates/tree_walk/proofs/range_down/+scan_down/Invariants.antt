use Rattle.std.proofs.Common.{ℕ, suc, ◌+◌, ◌≤◌}
use Rattle.node_table.specs.Table.{IsSubtree}
use Rattle.tree_links.specs.Places.{as_linked}
use Rattle.tree_links.specs.SeenTable.{name_of, seen_node}
use Rattle.tree_walk.proofs.BytesLeft.{bytes_left}
use Rattle.tree_walk.proofs.ScanDownLaws.{Down}
use Rattle.tree_walk.proofs.range_down.+scan_down.Given as goal

abbrev pub decreases-scan_down : goal.decreases-scan_down
decreases-scan_down g l = bytes_left l.nodes.now.table (name_of l.slot)

abbrev pub invariant-children : goal.invariant-children
invariant-children g l =
    record {
      down : (less : ℕ) → IsSubtree l.nodes.table (suc less) (name_of l.slot) → Down g.E.RangeEntry.entry l.start (l.last + 1) l.nodes.table less (name_of l.slot) (seen_node l.slot (as_linked l.node)) l.window.from l.to l.initial.buffer l.initial.count l.buffer l.count;
      to : l.to ≤ l.window.to;
    }

abbrev pub decreases-children : goal.decreases-children
decreases-children g l = l.to
