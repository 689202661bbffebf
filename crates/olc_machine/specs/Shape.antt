-- THE REACHABLE NODES, as the statistics see them.
use Rattle.std.specs.Prelude.{ℕ, zero, suc, List, [], Option, Some, None}
use Rattle.spec_map.specs.Map.{lookup}
use Rattle.node_table.specs.Table.{NodeInfo, nodes_in}
use Rattle.spec_node.specs.TableNode.{TableNode}
use Rattle.spec_olc.specs.State.{VersionedNode, State}

module _ {M : Type 0} where
  -- a node without its word and its lifetime
  abbrev pub bare : Option (VersionedNode M) → Option (TableNode M)
  bare None = None
  bare (Some a) = Some a.node

  -- the nodes of the subtree in a slot, from the top down, children by their bytes, on at most `levels` levels; `edge`:
  -- the bytes that lead to the slot
  abbrev pub reachable_at : State M → ℕ → List ℕ → ℕ → List NodeInfo
  reachable_at s zero edge slot = []
  reachable_at s (suc levels) edge slot =
      nodes_in (λ e j. reachable_at s levels e j) edge (bare (lookup s.nodes slot))

  -- all nodes from the root down, on at most eight levels, since a key has eight bytes
  unfoldable pub reachable : State M → List NodeInfo
  reachable s = reachable_at s 8 [] s.root
