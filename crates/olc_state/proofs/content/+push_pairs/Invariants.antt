use Rattle.std.proofs.Common.{◌-◌, ℕ, suc}
use Rattle.node_table.specs.Table.{IsSubtree}
use Rattle.olc_state.specs.inner.Meant.{meant_node}
use Rattle.olc_state.specs.inner.Walks.{meant_nodes}
use Rattle.olc_state.proofs.WalkLaws.{PartAdded, left_at}
use Rattle.olc_state.proofs.content.+push_pairs.Given as goal

abbrev pub decreases-push_pairs : goal.decreases-push_pairs
decreases-push_pairs g l = left_at (meant_nodes g.P.HasMeaning.meaning l.nodes.now.slots) l.slot

abbrev pub invariant-children : goal.invariant-children
invariant-children g l =
    (less : ℕ) → IsSubtree (meant_nodes g.P.HasMeaning.meaning l.nodes.slots) (suc less) l.slot
    → PartAdded g.P.HasMeaning.meaning (meant_nodes g.P.HasMeaning.meaning l.nodes.slots) less l.slot (meant_node g.P.HasMeaning.meaning l.node) l.from l.initial.pairs.items l.pairs.items

abbrev pub decreases-children : goal.decreases-children
decreases-children g l = 256 - l.from
