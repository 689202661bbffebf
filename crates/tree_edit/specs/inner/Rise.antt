-- How far a removal has gone up a key's path, and what it has done in the end. Only private contracts cite this.
use Rattle.std.specs.Prelude.{◌≡◌, ◌≢◌, ℕ, suc, ◌+◌, ◌≤◌, List, [], ◌∷◌, ◌++◌, length, Some, ◌⊎◌, Bool, true, false}
use Rattle.node_base.specs.Form.{few_in, smaller_form}
use Rattle.spec_map.specs.Map.{lookup, without}
use Rattle.spec_node.specs.Key.{AreBytes, Begins, key_number, next_byte}
use Rattle.node_table.specs.Table.{NodeTable, NodeInfo, node_at, pairs_under, pairs_at, nodes_under, nodes_at, IsTree}
use Rattle.spec_node.specs.TableNode.{TableNode, Child}
use Rattle.tree_path.specs.inner.Descent.{PathTo, IsTrail}
use Rattle.tree_path.specs.inner.Root.{HasTree, HasRoot, tree_pairs, tree_nodes}
use Rattle.tree_path.specs.declared.supply.FormCounts.{FormCounts}
use Rattle.tree_path.specs.inner.Supply.{IsCounted, Trades, with_form}
use Rattle.tree_edit.specs.Reduce.{IsWayAlone, LosesKey, with_one_less}

-- with all of these nodes
abbrev pub with_all : List NodeInfo → FormCounts → FormCounts
with_all [] c = c
with_all (n ∷ nodes) c = with_all nodes (with_form n.form c)

module _ {P : Type 0} where
  -- every node of s is in t too, but for the one in this slot and those below these bytes
  abbrev pub KeepsOff : ℕ → List ℕ → NodeTable P → NodeTable P → Type 0
  KeepsOff slot r s t =
      (i : ℕ) (m : TableNode P) → i ≢ slot → (Begins r m.prefix → ⊥) → node_at s i ≡ Some m → node_at t i ≡ Some m

  -- the node in the slot is unchanged, or in its smaller form if it had few children
  abbrev pub ThinsAt : NodeTable P → NodeTable P → ℕ → Bool → FormCounts → FormCounts → Type 0
  ThinsAt s t slot shrinks old new = (n : TableNode P) → node_at s slot ≡ Some n
      → ((node_at t slot ≡ Some n) × (new ≡ old))
      ⊎ ((shrinks ≡ true) × (length n.children ≤ few_in n.form)
      × (node_at t slot ≡ Some (record n { form = smaller_form n.form })) × Trades old n.form (smaller_form n.form) new)

module _ {P : Type 0} (s : NodeTable P) (key : List ℕ) where
  -- HOW FAR IT HAS GONE: the node in this slot, which was the top of a subtree of s, has nothing left in t under the
  -- key's byte, and what was below that byte was the rest of the key's path, with a single child at each node
  pub record Risen (t : NodeTable P) (levels : ℕ) (q : List ℕ) (slot : ℕ) (n m : TableNode P) : Type 0 where
    pub begins : Begins n.prefix key
    pub there : node_at t slot ≡ Some m
    pub prefix : m.prefix ≡ n.prefix
    pub children : m.children ≡ without n.children (next_byte n.prefix key)
    pub child : Child P
    pub found : lookup n.children (next_byte n.prefix key) ≡ Some child
    pub spent :
        without (pairs_under (λ j. pairs_at s levels j) n.prefix (next_byte n.prefix key) child) (key_number key) ≡ []
    pub gone : List NodeInfo
    pub nodes : nodes_under (λ e j. nodes_at s levels e j) n.prefix (next_byte n.prefix key) child ≡ gone
    pub way : IsWayAlone key (n.prefix ++ next_byte n.prefix key ∷ []) gone
    pub keeps : KeepsOff slot (n.prefix ++ next_byte n.prefix key ∷ []) s t

module _ {P : Type 0} (s : NodeTable P) (root : ℕ) (key : List ℕ) where
  -- it has gone up to the node in this slot, which has so many above it
  pub record HasRisen (t : NodeTable P) (slot at : ℕ) (old new : FormCounts) : Type 0 where
    pub levels : ℕ
    pub q : List ℕ
    pub path : PathTo s root key at (suc levels) q slot
    pub top : IsTree s (suc levels) q slot
    pub left : TableNode P
    pub risen : Risen s key t levels q slot top.node left
    pub form : left.form ≡ top.node.form
    pub counted : old ≡ with_all risen.gone new

  -- a tree in which it starts, and how the tree's nodes are counted
  pub record IsWholeBefore (trail : List ℕ) (above : ℕ) (forms : FormCounts) : Type 0 where
    pub tree : HasTree s root
    pub rooted : HasRoot s root
    pub bytes : AreBytes key
    pub full : length key ≡ 8
    pub on_trail : IsTrail s root key trail (above + 1)
    pub counted : IsCounted forms (tree_nodes s root)

  -- THE END of the removal
  pub record IsRemoval (shrinks : Bool) (t : NodeTable P) (new : FormCounts) : Type 0 where
    pub tree : HasTree t root
    pub rooted : HasRoot t root
    pub pairs : tree_pairs t root ≡ without (tree_pairs s root) (key_number key)
    pub nodes : LosesKey (tree_nodes s root) key (tree_nodes t root)
    pub in_place : shrinks ≡ false → nodes.less ≡ with_one_less nodes.node
    pub counted : IsCounted new (tree_nodes t root)
