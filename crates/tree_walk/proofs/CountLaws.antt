-- Counting the leaf of a pair, which is in its parent.
use Rattle.std.proofs.Common.{◌≡◌, ℕ, ◌+◌, ◌-◌, ◌<◌, List, [], ◌∷◌, ◌++◌, length, take, ◌∙◌, arith, Some}
use Rattle.std.proofs.lemmas.List.{length-take}
use Rattle.spec_map.specs.Map.{between, Rises}
use Rattle.node_base.specs.declared.base_node.NodeType.TheVariants.{N4}
use Rattle.node_stats.specs.Stats.{visit}
use Rattle.node_stats.specs.declared.levels.LevelStats.{LevelStats}
use Rattle.node_table.specs.Table.{NodeTable, node_at, IsSubtree}
use Rattle.spec_node.specs.declared.child.Child.TheVariants.{Node}
use Rattle.tree_path.specs.inner.Root.{depth}
use Rattle.tree_links.specs.LinkNode.{LinkNode}
use Rattle.tree_links.specs.SeenTable.{name_of, name_under, key_under, leaf_of, seen_node, pair_in}
use Rattle.tree_links.specs.declared.link.Link.TheVariants.{Pair}
use Rattle.tree_links.proofs.KeyLaws.{key_long}
use Rattle.tree_walk.specs.inner.Count.{AddsVisits, AddsSubtree}
use Rattle.tree_walk.proofs.VisitedLaws.{child_is, count_leaf}
use Rattle.tree_walk.proofs.LinkLaws.{Stored, pair_leaf}

module _ {P : Type 0} (s : NodeTable P) (i : ℕ) (n : LinkNode P) (pairs : (b : ℕ) → b < 256 → pair_in (Some n) b ≡ node_at s (name_under i b)) (ascending : Rises 0 256 n.links)
    (b : ℕ) (rest : List ℕ) (v : P) (at : Stored n.links b (Pair rest v)) (long : length rest ≡ 7) (above : ℕ) (tree : IsSubtree s (depth - above) (name_of i)) (here : node_at s (name_of i) ≡ Some (seen_node i n)) where
  abbrev key : List ℕ
  key = key_under n.prefix b rest

  pub count_pair : (from : ℕ) → between (seen_node i n).children from 256 ≡ (b, Node (name_under i b)) ∷ between (seen_node i n).children (b + 1) 256
      → (old new : List LevelStats) → AddsVisits (visit (above + 1) N4 1 ∷ []) old new → AddsSubtree s (above + 1) (name_under i b) old new
  count_pair from next old new adds =
      let below : IsSubtree s (depth - (above + 1)) (name_under i b) = record { above = n.prefix ++ b ∷ []; tree = child_is s above (name_of i) (seen_node i n) from b (Node (name_under i b)) tree here next } in
      let seven : length (take 7 key) ≡ 7 = length-take 7 key ∙ omega (arith, key_long n.prefix b rest long) in
      count_leaf s (above + 1) (name_under i b) (leaf_of key v) old new below (pair_leaf s i n pairs ascending b rest v at) seven adds
