use Rattle.std.proofs.Common.{◌≡◌, ◌-◌, ℕ, suc, vec_capacity}
use Rattle.node_table.specs.Table.{IsSubtree}
use Rattle.tree_links.specs.Places.{as_linked}
use Rattle.tree_links.specs.SeenTable.{name_of, seen_node}
use Rattle.tree_walk.proofs.BytesLeft.{bytes_left}
use Rattle.tree_walk.proofs.WalkLaws.{KeysLeft}
use Rattle.tree_walk.proofs.walk.+push_keys.Given as goal

abbrev pub decreases-push_keys : goal.decreases-push_keys
decreases-push_keys g l = bytes_left l.nodes.now.table (name_of l.slot)

abbrev pub invariant-children : goal.invariant-children
invariant-children g l =
    record {
      left : (less : ℕ) → IsSubtree l.nodes.table (suc less) (name_of l.slot) → KeysLeft g.K.Word.of_number l.nodes.table less (name_of l.slot) (seen_node l.slot (as_linked l.node)) l.from l.initial.keys.items l.keys.items;
      capacity : vec_capacity l.keys ≡ vec_capacity l.initial.keys;
    }

abbrev pub decreases-children : goal.decreases-children
decreases-children g l = 256 - l.from
