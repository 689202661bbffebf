use Rattle.std.proofs.Common.{◌≡◌, ◌-◌}
use Rattle.olc_state.specs.inner.Meant.{meant_node}
use Rattle.olc_state.specs.inner.Walks.{meant_nodes}
use Rattle.tree_walk.proofs.VisitedLaws.{Counting}
use Rattle.olc_machine.proofs.counting.+count_subtree.Given as goal

abbrev pub decreases-count_subtree : goal.decreases-count_subtree
decreases-count_subtree g l = 8 - l.above

abbrev pub invariant-children : goal.invariant-children
invariant-children g l =
    record {
      counting : Counting (meant_nodes g.P.HasMeaning.meaning l.nodes.slots) l.above (meant_node g.P.HasMeaning.meaning l.node) l.from l.fn.stats.levels l.stats.levels;
      pairs : l.stats.kv_pairs ≡ l.fn.stats.kv_pairs;
    }

abbrev pub decreases-children : goal.decreases-children
decreases-children g l = 256 - l.from
