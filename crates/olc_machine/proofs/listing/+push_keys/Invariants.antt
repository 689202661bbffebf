use Rattle.std.proofs.Common.{◌-◌, ℕ, suc}
use Rattle.node_table.specs.Table.{IsSubtree}
use Rattle.olc_state.specs.inner.Meant.{meant_node}
use Rattle.olc_state.specs.inner.Walks.{meant_nodes}
use Rattle.tree_walk.proofs.BytesLeft.{bytes_left}
use Rattle.tree_walk.proofs.WalkLaws.{KeysLeft}
use Rattle.olc_machine.proofs.listing.+push_keys.Given as goal

abbrev pub decreases-push_keys : goal.decreases-push_keys
decreases-push_keys g l = bytes_left (meant_nodes g.P.HasMeaning.meaning l.nodes.now.slots) l.slot

abbrev pub invariant-children : goal.invariant-children
invariant-children g l =
    (less : ℕ) → IsSubtree (meant_nodes g.P.HasMeaning.meaning l.nodes.slots) (suc less) l.slot
    → KeysLeft g.K.Word.of_number (meant_nodes g.P.HasMeaning.meaning l.nodes.slots) less l.slot (meant_node g.P.HasMeaning.meaning l.node) l.from l.initial.keys.items l.keys.items

abbrev pub decreases-children : goal.decreases-children
decreases-children g l = 256 - l.from
