-- The model of a tree with its seats, which contracts see.
use Rattle.std.specs.Prelude.{List}
use Rattle.slab.specs.Slab.{Slab}
use Rattle.spec_map.specs.Map.{Pairs}
use Rattle.node_table.specs.Table.{NodeInfo}
use Rattle.share_tree.specs.declared.seat.CallSeat.{CallSeat}

-- the pairs that are stored, the tree's nodes, and the seats by their numbers
pub record DirectView (P : Type 0) : Type 0 where
  pub pairs : Pairs P
  pub nodes : List NodeInfo
  pub seats : Slab (CallSeat P)
