use Rattle.std.proofs.Common.{◌≡◌, ◌-◌}
use Rattle.tree_links.specs.Places.{as_linked}
use Rattle.tree_links.specs.SeenTable.{seen_node}
use Rattle.tree_walk.proofs.VisitedLaws.{Counting}
use Rattle.tree_walk.proofs.statistics.+count_subtree.Given as goal

abbrev pub decreases-count_subtree : goal.decreases-count_subtree
decreases-count_subtree g l = 8 - l.above

abbrev pub invariant-children : goal.invariant-children
invariant-children g l =
    record {
      counting : Counting l.nodes.table l.above (seen_node l.slot (as_linked l.node)) l.from l.fn.stats.levels l.stats.levels;
      pairs : l.stats.kv_pairs ≡ l.fn.stats.kv_pairs;
    }

abbrev pub decreases-children : goal.decreases-children
decreases-children g l = 256 - l.from
