-- The keys below a node, where the walk over its links ends.
use Rattle.std.proofs.Common.{◌≡◌, ℕ, suc, List, [], ◌++◌, ap, sym, ◌∙◌, append-nil}
use Rattle.spec_map.specs.Map.{between}
use Rattle.spec_node.specs.TableNode.{TableNode}
use Rattle.node_table.specs.Table.{NodeTable, pairs_at, pairs_of}
use Rattle.tree_walk.proofs.WalkLaws.{keys_of, KeysLeft}

pub keys_end : {P K : Type 0} (key : ℕ → K) (s : NodeTable P) (less slot : ℕ) (n : TableNode P) (from : ℕ) (old new : List K) → KeysLeft key s less slot n from old new → between n.children from 256 ≡ [] → new ≡ old ++ keys_of key s (pairs_at s (suc less) slot)
keys_end key s less slot n from old new left none =
    sym (append-nil new) ∙ ap (λ es. new ++ keys_of key s (pairs_of (λ j. pairs_at s less j) n.prefix es)) (sym none) ∙ left.whole
