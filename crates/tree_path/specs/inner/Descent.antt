-- How the path of a key descends in the table, and how it ends.
use Rattle.std.specs.Prelude.{◌≡◌, ℕ, zero, suc, ◌+◌, ◌-◌, ◌<◌, ◌≤◌, List, [], ◌∷◌, ◌++◌, length, slice_index, Some, None}
use Rattle.spec_map.specs.Map.{lookup}
use Rattle.spec_node.specs.Key.{Begins, IsFirstDifference, next_byte}
use Rattle.spec_node.specs.TableNode.{TableNode, Child, MayHave}
use Rattle.node_table.specs.Table.{NodeTable, node_at, IsTree}
use Rattle.spec_node.specs.declared.child.Child.TheVariants.{Payload, Node}
use Rattle.tree_path.specs.declared.descent.Stop.{Stop}
use Rattle.tree_path.specs.declared.descent.Stop.TheVariants as stops
use Rattle.tree_path.specs.declared.descent.PathEnd.{PathEnd}
use Rattle.tree_path.specs.inner.Root.{depth}
use denote.Ref.{Bor}

-- how the path of a key ends at a node
pub data End (P : Type 0) : Type 0 where
  -- the node's prefix differs from the key at this place
  Differs : ℕ → End P
  -- the node has nothing under the key's byte
  Absent : ℕ → End P
  -- the node has this payload under the key's byte
  Present : ℕ → Bor P → End P

-- the node where the path of a key ends, the one above it, and how many are above it
pub record EndPlace (P : Type 0) : Type 0 where
  pub slot : ℕ
  pub parent : ℕ
  pub above : ℕ
  pub end : End P

module _ {P : Type 0} (key : List ℕ) where
  -- what was found at the node
  abbrev pub FindsEnd : TableNode P → End P → Type 0
  FindsEnd n (Differs at) = IsFirstDifference n.prefix key at
  FindsEnd n (Absent b) =
      (b ≡ next_byte n.prefix key) × Begins n.prefix key × (lookup n.children b ≡ None)
  FindsEnd n (Present b v) =
      (b ≡ next_byte n.prefix key) × Begins n.prefix key
      × (lookup n.children b ≡ Some (Payload v.now))

  -- where the descent ends; what a leaf has under the byte isn't known yet
  abbrev pub Halts : TableNode P → Stop → Type 0
  Halts n (stops.Differs at) = IsFirstDifference n.prefix key at
  Halts n (stops.Absent b) =
      (b ≡ next_byte n.prefix key) × Begins n.prefix key × (lookup n.children b ≡ None)
      × (length n.prefix < 7)
  Halts n (stops.Leaf b) =
      (b ≡ next_byte n.prefix key) × Begins n.prefix key × (length n.prefix ≡ 7)

-- each child of the node is of the kind that its prefix determines
abbrev pub IsOfOneKind : {P : Type 0} → TableNode P → Type 0
IsOfOneKind {P} n = (b : ℕ) (c : Child P) → lookup n.children b ≡ Some c → MayHave n.prefix c

module _ {P : Type 0} (s : NodeTable P) (root : ℕ) (key : List ℕ) where
  -- one step of the path, from a parent that is so far above
  pub record PathStep (above : ℕ → List ℕ → ℕ → Type 0) (levels : ℕ) (q : List ℕ) (slot : ℕ) : Type 0 where
    pub parent : ℕ
    pub parent_q : List ℕ
    pub tree : IsTree s (suc levels) parent_q parent
    pub path : above (suc levels) parent_q parent
    pub begins : Begins tree.node.prefix key
    pub found : lookup tree.node.children (next_byte tree.node.prefix key) ≡ Some (Node slot)
    pub is : q ≡ tree.node.prefix ++ next_byte tree.node.prefix key ∷ []

  -- so many nodes are above this slot on the key's path
  abbrev pub PathTo : ℕ → ℕ → List ℕ → ℕ → Type 0
  PathTo zero levels q slot = (levels ≡ depth) × (q ≡ []) × (slot ≡ root)
  PathTo (suc above) levels q slot = PathStep (λ l r i. PathTo above l r i) levels q slot

  -- if a node is above, it is in the slot `parent`
  abbrev pub HasParent : (above levels : ℕ) (q : List ℕ) (slot : ℕ) → PathTo above levels q slot → ℕ → Type 0
  HasParent zero levels q slot path parent = Unit {0}
  HasParent (suc above) levels q slot path parent = path.parent ≡ parent

  -- the key's path leads to this slot, and so many nodes are above it, the last in the slot `parent`
  pub record LeadsTo (above slot parent : ℕ) : Type 0 where
    pub levels : ℕ
    pub q : List ℕ
    pub path : PathTo above levels q slot
    pub up : HasParent above levels q slot path parent
    pub tree : IsTree s levels q slot
    pub begins : Begins q key
    pub deep : above ≤ length q
    pub sum : above + levels ≡ 8

  -- it leads here, and each node above was counted in the descent, from `before` to `reads`
  pub record IsOnTheWay (above slot parent before reads : ℕ) : Type 0 where
    pub leads : LeadsTo above slot parent
    pub counted : reads ≡ before + above

  -- the slots of the first nodes on the key's path are in a list, the root's first
  pub record IsTrail (trail : List ℕ) (nodes : ℕ) : Type 0 where
    pub at : (i : ℕ) → i < nodes → LeadsTo i (slice_index trail i) (slice_index trail (i - 1))

  -- the key's descent ends at this node
  pub record SeeksTo (spot : PathEnd) : Type 0 where
    pub leads : LeadsTo spot.above spot.slot spot.parent
    pub node : TableNode P
    pub here : node_at s spot.slot ≡ Some node
    pub stop : Halts key node spot.stop

  -- the key's path ends at this place
  pub record EndsAt (place : EndPlace P) : Type 0 where
    pub leads : LeadsTo place.above place.slot place.parent
    pub node : TableNode P
    pub here : node_at s place.slot ≡ Some node
    pub end : FindsEnd key node place.end
