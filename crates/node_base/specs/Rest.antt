-- What an iterator over a node's children has yet to return.
use Rattle.std.specs.Prelude.{ℕ, ◌+◌, ◌-◌, List, drop, slice_index}
use Rattle.node_base.specs.declared.iter.Node256Iter.{Node256Iter}
use Rattle.node_base.specs.inner.Sorted.{pairs}
use Rattle.node_base.specs.inner.Few.{listed}
use Rattle.node_base.specs.declared.iter.Node4Iter.{Node4Iter}
use Rattle.node_base.specs.declared.iter.Node16Iter.{Node16Iter}
use Rattle.node_base.specs.inner.Places.{in_cell}
use Rattle.node_base.specs.inner.Row.{under, at_place}
use Rattle.node_base.specs.declared.iter.Node48Iter.{Node48Iter}
use Rattle.node_base.specs.declared.iter.NodeIter.{NodeIter}
use Rattle.node_base.specs.declared.iter.NodeIter.TheVariants.{N4, N16, N48, N256}

module _ {C : Type 0} where
  abbrev pub rest_256 : Node256Iter C → List (ℕ × C)
  rest_256 s = under (in_cell s.places.now) s.at (s.last + 1 - s.at)

  abbrev pub rest_4 : Node4Iter C → List (ℕ × C)
  rest_4 s = pairs s.keys.now (drop s.at (listed s.children.now))

  abbrev pub rest_16 : Node16Iter C → List (ℕ × C)
  rest_16 s = pairs s.keys.now s.children.now

  abbrev pub rest_48 : Node48Iter C → List (ℕ × C)
  rest_48 s = under (at_place (slice_index s.index.now) s.children.now) s.at (s.last + 1 - s.at)

  abbrev pub rest : NodeIter C → List (ℕ × C)
  rest (N4 s) = rest_4 s
  rest (N16 s) = rest_16 s
  rest (N48 s) = rest_48 s
  rest (N256 s) = rest_256 s
