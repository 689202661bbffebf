use Rattle.std.proofs.Common.{◌-◌, ◌≤◌, ℕ, suc}
use Rattle.node_table.specs.Table.{IsSubtree}
use Rattle.tree_links.specs.Places.{as_linked}
use Rattle.tree_links.specs.SeenTable.{name_of, seen_node}
use Rattle.tree_walk.proofs.BytesLeft.{bytes_left}
use Rattle.tree_walk.proofs.WalkLaws.{SeekLeft}
use Rattle.tree_walk.proofs.nearest.+pair_from.Given as goal

abbrev pub decreases-pair_from : goal.decreases-pair_from
decreases-pair_from g l = bytes_left l.nodes.now.table (name_of l.slot)

abbrev pub invariant-children : goal.invariant-children
invariant-children g l =
    record {
      left : (less : ℕ) → IsSubtree l.nodes.table (suc less) (name_of l.slot) → SeekLeft l.nodes.table l.start less (name_of l.slot) (seen_node l.slot (as_linked l.node)) l.from;
      from : l.window.from ≤ l.from;
    }

abbrev pub decreases-children : goal.decreases-children
decreases-children g l = 256 - l.from
