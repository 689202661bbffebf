-- The walk over the nodes in their slots.
use Rattle.std.specs.Prelude.{◌≡◌, ℕ, suc, List, [], ◌∷◌, ◌++◌, Option, Some, None}
use Rattle.spec_map.specs.Map.{Pairs}
use Rattle.spec_node.specs.TableNode.{TableNode}
use Rattle.node_table.specs.Table.{IsSubtree, pairs_at}
use Rattle.node_table.specs.inner.Kinds.{mapped}
use Rattle.olc_state.specs.declared.stage.Stored.{Stored}
use Rattle.olc_state.specs.inner.Meant.{meant_slots}

-- the node in each slot, without its word and its place
abbrev pub nodes_on : {X : Type 0} → List (Option (Stored X)) → List (Option (TableNode X))
nodes_on [] = []
nodes_on (None ∷ slots) = None ∷ nodes_on slots
nodes_on (Some n ∷ slots) = Some n.node ∷ nodes_on slots

module _ {P M : Type 0} (meaning : P → M) where
  -- with payloads replaced by what they mean
  abbrev pub meant_nodes : List (Option (Stored P)) → List (Option (TableNode M))
  meant_nodes slots = nodes_on (meant_slots meaning slots)

  -- the slot is the top of a tree
  abbrev pub IsTop : List (Option (Stored P)) → ℕ → Type 0
  IsTop slots slot = (levels : ℕ) × IsSubtree (meant_nodes slots) levels slot

  -- a list got the pairs of the tree in a slot at its end, in what they mean
  abbrev pub AddsPairs : List (Option (Stored P)) → ℕ → Pairs P → Pairs P → Type 0
  AddsPairs slots slot old new = (levels : ℕ) → IsSubtree (meant_nodes slots) (suc levels) slot
      → mapped meaning new ≡ mapped meaning old ++ pairs_at (meant_nodes slots) (suc levels) slot
