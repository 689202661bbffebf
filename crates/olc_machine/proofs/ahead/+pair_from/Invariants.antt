use Rattle.std.proofs.Common.{◌-◌, ◌≤◌, ℕ, suc}
use Rattle.node_table.specs.Table.{IsSubtree}
use Rattle.olc_state.specs.inner.Meant.{meant_node}
use Rattle.olc_state.specs.inner.Walks.{meant_nodes}
use Rattle.tree_walk.proofs.BytesLeft.{bytes_left}
use Rattle.tree_walk.proofs.WalkLaws.{SeekLeft}
use Rattle.olc_machine.specs.inner.FirstByte.{IsFirstByte}
use Rattle.olc_machine.proofs.ahead.+pair_from.Given as goal

abbrev pub decreases-pair_from : goal.decreases-pair_from
decreases-pair_from g l = bytes_left (meant_nodes g.P.HasMeaning.meaning l.nodes.now.slots) l.slot

abbrev pub invariant-children : goal.invariant-children
invariant-children g l =
    record {
      left : (less : ℕ) → IsSubtree (meant_nodes g.P.HasMeaning.meaning l.nodes.slots) (suc less) l.slot
          → SeekLeft (meant_nodes g.P.HasMeaning.meaning l.nodes.slots) l.start less l.slot (meant_node g.P.HasMeaning.meaning l.node) l.from;
      begin : (begin : ℕ) × IsFirstByte l.node.prefix l.start begin × (begin ≤ l.from);
    }

abbrev pub decreases-children : goal.decreases-children
decreases-children g l = 256 - l.from
