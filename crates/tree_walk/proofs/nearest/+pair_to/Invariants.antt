use Rattle.std.proofs.Common.{◌≤◌, ℕ, suc}
use Rattle.node_table.specs.Table.{IsSubtree}
use Rattle.tree_links.specs.Places.{as_linked}
use Rattle.tree_links.specs.SeenTable.{name_of, seen_node}
use Rattle.tree_walk.proofs.BytesLeft.{bytes_left}
use Rattle.tree_walk.proofs.NearestLaws.{SeekRight}
use Rattle.tree_walk.proofs.nearest.+pair_to.Given as goal

abbrev pub decreases-pair_to : goal.decreases-pair_to
decreases-pair_to g l = bytes_left l.nodes.now.table (name_of l.slot)

abbrev pub invariant-children : goal.invariant-children
invariant-children g l =
    record {
      right : (less : ℕ) → IsSubtree l.nodes.table (suc less) (name_of l.slot) → SeekRight l.nodes.table l.last less (name_of l.slot) (seen_node l.slot (as_linked l.node)) l.to;
      to : l.to ≤ l.window.to;
    }

abbrev pub decreases-children : goal.decreases-children
decreases-children g l = l.to
