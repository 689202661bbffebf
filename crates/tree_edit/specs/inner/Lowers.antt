-- A leaf on a key's path, which may go back into its parent, and a removal at its leaf. Only private contracts cite this.
use Rattle.std.specs.Prelude.{◌≡◌, ℕ, ◌<◌, ◌++◌, List, [], ◌∷◌, length, Some}
use Rattle.spec_map.specs.Map.{lookup}
use Rattle.spec_node.specs.Key.{Begins, next_byte}
use Rattle.spec_node.specs.TableNode.{TableNode}
use Rattle.node_table.specs.Table.{NodeTable, node_at}
use Rattle.spec_node.specs.declared.child.Child.TheVariants.{Node}
use Rattle.tree_path.specs.inner.Descent.{IsOfOneKind, SeeksTo}
use Rattle.tree_path.specs.inner.Root.{HasTree}
use Rattle.tree_path.specs.declared.descent.Stop.TheVariants.{Leaf}
use Rattle.tree_path.specs.declared.supply.FormCounts.{FormCounts}
use Rattle.tree_edit.specs.inner.Rise.{IsWholeBefore}
use Rattle.tree_edit.specs.inner.Takes.{TakesPayload}
use Rattle.tree_edit.specs.inner.Writes.{IsStoredWhere}
use Rattle.tree_links.specs.SameTree.{GoesOnAt, SameTree}

module _ {P : Type 0} where
  -- the key's path leads from the node at `parent` to a leaf
  pub record HasLeafOnPath (s : NodeTable P) (parent leaf : ℕ) (key : List ℕ) : Type 0 where
    pub above : TableNode P
    pub above_here : node_at s parent ≡ Some above
    pub inner : length above.prefix < 7
    pub found : lookup above.children (next_byte above.prefix key) ≡ Some (Node leaf)
    pub node : TableNode P
    pub here : node_at s leaf ≡ Some node
    pub seven : length node.prefix ≡ 7
    pub begins : Begins (above.prefix ++ next_byte above.prefix key ∷ []) node.prefix
    pub kind : IsOfOneKind node

  -- each tree in which the key's path leads through that node is the same
  abbrev pub SameOnPath : NodeTable P → NodeTable P → ℕ → List ℕ → Type 0
  SameOnPath s t parent key =
      (root byte : ℕ) → HasTree s root → GoesOnAt s root key parent byte → SameTree s t root

  -- the key's payload was taken out of its leaf, at the end of its path in s
  pub record HasTaken (s t : NodeTable P) (root : ℕ) (key trail : List ℕ) (above leaf parent byte : ℕ) (forms : FormCounts) : Type 0 where
    pub whole : IsWholeBefore s root key trail above forms
    pub ends : SeeksTo s root key (record { slot = leaf; parent = parent; above = above; stop = Leaf byte })
    pub payload : P
    pub stored : IsStoredWhere s leaf (Leaf byte) payload
    pub takes : TakesPayload s t leaf (Leaf byte)
