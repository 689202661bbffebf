-- The model of a tree whose changes are counted, which contracts see.
use Rattle.std.specs.Prelude.{ℕ, List}
use Rattle.spec_map.specs.Map.{Pairs}
use Rattle.node_table.specs.Table.{NodeInfo}

-- its pairs, its nodes, and a count for each value of a key's low 6 bits
pub record Contents (P : Type 0) : Type 0 where
  pub pairs : Pairs P
  pub nodes : List NodeInfo
  pub counts : List ℕ
