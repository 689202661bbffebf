-- What a write of one node in its slot does to the table.
use Rattle.std.specs.Prelude.{◌≡◌, ◌≢◌, ℕ, ◌+◌, List, [], ◌∷◌, length, take, Option, Some, None, ◌<◌, slice_index_or}
use Rattle.spec_map.specs.Map.{lookup, put}
use Rattle.node_base.specs.Form.{Fits}
use Rattle.node_table.specs.Shape.{grown_form}
use Rattle.node_base.specs.declared.base_node.NodeType.TheVariants.{N4}
use Rattle.spec_map.specs.Refusal.{IsFullOrAbsent}
use Rattle.spec_node.specs.Key.{IsFirstDifference}
use Rattle.spec_node.specs.TableNode.{TableNode, Child, MayHave}
use Rattle.node_table.specs.Table.{NodeTable, node_at}
use Rattle.tree_path.specs.inner.Descent.{Halts, IsOfOneKind}
use Rattle.tree_path.specs.declared.descent.Stop.{Stop}
use Rattle.tree_path.specs.declared.descent.Stop.TheVariants.{Differs, Absent, Leaf}
use Rattle.tree_path.specs.inner.Supply.{with_form, CountsGrown}
use Rattle.tree_path.specs.declared.supply.FormCounts.{FormCounts}
use Rattle.spec_node.specs.declared.child.Child.TheVariants.{Payload, Node}

module _ {P : Type 0} where
  abbrev pub SameElsewhere : ℕ → NodeTable P → NodeTable P → Type 0
  SameElsewhere slot s t = (i : ℕ) → i ≢ slot → node_at t i ≡ node_at s i

  -- the slot has a node that can take this child under this byte
  pub record IsReadyFor (s : NodeTable P) (slot byte : ℕ) (child : Child P) : Type 0 where
    pub node : TableNode P
    pub here : node_at s slot ≡ Some node
    pub absent : lookup node.children byte ≡ None
    pub room : Fits node.form (length node.children + 1)
    pub kind : MayHave node.prefix child

  -- the slot's node has room for one child more, with unchanged prefix and children
  abbrev pub MakesRoom : NodeTable P → NodeTable P → ℕ → Type 0
  MakesRoom s t slot =
      (n : TableNode P) → node_at s slot ≡ Some n
      → (m : TableNode P) × (node_at t slot ≡ Some m)
      × (m.prefix ≡ n.prefix) × (m.children ≡ n.children)
      × Fits m.form (length m.children + 1) × (m.form ≡ grown_form n.form (length n.children))

  -- the slot's node has no room for one child more
  abbrev pub IsFullAt : NodeTable P → ℕ → Type 0
  IsFullAt s slot = (n : TableNode P) → node_at s slot ≡ Some n → IsFullOrAbsent (length n.children)

  -- the slot has a leaf
  pub record HasLeafAt (s : NodeTable P) (slot : ℕ) : Type 0 where
    pub node : TableNode P
    pub here : node_at s slot ≡ Some node
    pub seven : length node.prefix ≡ 7
    pub kind : IsOfOneKind node

  -- the slot's node has nothing under this byte
  abbrev pub HasNothingUnder : NodeTable P → ℕ → ℕ → Type 0
  HasNothingUnder s slot byte =
      (n : TableNode P) → node_at s slot ≡ Some n → lookup n.children byte ≡ None

  abbrev pub WasChild : NodeTable P → ℕ → ℕ → Child P → Type 0
  WasChild s slot byte c =
      (n : TableNode P) → node_at s slot ≡ Some n → lookup n.children byte ≡ Some c

  -- the slot's node has the child, and its prefix is unchanged
  abbrev pub WritesChild : NodeTable P → NodeTable P → ℕ → ℕ → Child P → Type 0
  WritesChild s t slot byte child =
      (n : TableNode P) → node_at s slot ≡ Some n
      → (m : TableNode P) × (node_at t slot ≡ Some m)
      × (m.prefix ≡ n.prefix) × (m.children ≡ put n.children byte child) × (m.form ≡ n.form)

  -- the leaf of this key, with this pair alone
  pub record IsLeafOf (l : TableNode P) (key : List ℕ) (v : P) : Type 0 where
    pub prefix : l.prefix ≡ take 7 key
    pub children : l.children ≡ (slice_index_or key 7 0, Payload v) ∷ []
    pub form : l.form ≡ N4

  abbrev pub empty_leaf : List ℕ → TableNode P
  empty_leaf key = record { form = N4; prefix = take 7 key; children = [] }

  -- the slot has a node above the leaves with nothing under this byte
  pub record IsOpenFor (s : NodeTable P) (slot byte : ℕ) : Type 0 where
    pub node : TableNode P
    pub here : node_at s slot ≡ Some node
    pub absent : lookup node.children byte ≡ None
    pub inner : length node.prefix < 7

  -- the child that represents the pair below these bytes
  abbrev pub IsStoredFor : NodeTable P → List ℕ → List ℕ → P → Child P → Type 0
  IsStoredFor t p key v (Payload w) = (length p ≡ 7) × (w ≡ v)
  IsStoredFor t p key v (Node j) =
      (length p ≢ 7) × ((l : TableNode P) × (node_at t j ≡ Some l) × IsLeafOf l key v)

  abbrev pub KeepsOtherNodes : ℕ → NodeTable P → NodeTable P → Type 0
  KeepsOtherNodes slot s t =
      (i : ℕ) (m : TableNode P) → i ≢ slot → node_at s i ≡ Some m → node_at t i ≡ Some m

  -- the slot's node, grown where it had no room, has this child under the byte
  abbrev pub HasMore : NodeTable P → NodeTable P → ℕ → ℕ → (TableNode P → Child P → Type 0) → Type 0
  HasMore s t slot byte Fit =
      (n : TableNode P) → node_at s slot ≡ Some n
      → (c : Child P) × (m : TableNode P) × (node_at t slot ≡ Some m)
      × (m.prefix ≡ n.prefix) × (m.children ≡ put n.children byte c)
      × (m.form ≡ grown_form n.form (length n.children)) × Fit n c

  -- the slot's node has the pair, and every other node is unchanged
  abbrev pub Adds : NodeTable P → NodeTable P → ℕ → List ℕ → ℕ → P → Type 0
  Adds s t slot key byte v =
      KeepsOtherNodes slot s t × HasMore s t slot byte (λ n c. IsStoredFor t n.prefix key v c)

  -- it has an empty leaf for the key, in this slot, which had no node
  pub record AddsLeafFor (s t : NodeTable P) (slot : ℕ) (key : List ℕ) (byte leaf : ℕ) : Type 0 where
    pub keeps : KeepsOtherNodes slot s t
    pub more : HasMore s t slot byte (λ n c. c ≡ Node leaf)
    pub fresh : node_at s leaf ≡ None
    pub there : node_at t leaf ≡ Some (empty_leaf key)

  -- the slot has a node whose prefix the key leaves at this place
  pub record IsParted (s : NodeTable P) (slot : ℕ) (key : List ℕ) (at : ℕ) : Type 0 where
    pub node : TableNode P
    pub here : node_at s slot ≡ Some node
    pub differ : IsFirstDifference node.prefix key at

  -- a new node is above the old one, and has such a leaf beside it
  pub record SplitsBy (IsLeaf : TableNode P → Type 0) (s t : NodeTable P) (slot : ℕ) (key : List ℕ) (at : ℕ) : Type 0 where
    pub node : TableNode P
    pub here : node_at s slot ≡ Some node
    pub upper : TableNode P
    pub leaf : TableNode P
    pub lower_slot : ℕ
    pub leaf_slot : ℕ
    pub keeps : KeepsOtherNodes slot s t
    pub upper_there : node_at t slot ≡ Some upper
    pub lower_there : node_at t lower_slot ≡ Some node
    pub leaf_there : node_at t leaf_slot ≡ Some leaf
    pub form_is : upper.form ≡ N4
    pub prefix_is : upper.prefix ≡ take at key
    pub children_are :
        upper.children
        ≡ put ((slice_index_or node.prefix at 0, Node lower_slot) ∷ []) (slice_index_or key at 0) (Node leaf_slot)
    pub is_leaf : IsLeaf leaf

  -- the leaf of the pair
  abbrev pub Splits : NodeTable P → NodeTable P → ℕ → List ℕ → ℕ → P → Type 0
  Splits s t slot key at v = SplitsBy (λ l. IsLeafOf l key v) s t slot key at

  -- an empty leaf for the key, in this slot, which had no node
  pub record SplitsFor (s t : NodeTable P) (slot : ℕ) (key : List ℕ) (at leaf : ℕ) : Type 0 where
    pub parts : SplitsBy (λ l. l ≡ empty_leaf key) s t slot key at
    pub is : parts.leaf_slot ≡ leaf
    pub fresh : node_at s leaf ≡ None
    pub apart : parts.lower_slot ≢ leaf

  -- the descent of a key ended in this way at the slot's node
  pub record HaltsAt (s : NodeTable P) (slot : ℕ) (key : List ℕ) (stop : Stop) : Type 0 where
    pub node : TableNode P
    pub here : node_at s slot ≡ Some node
    pub halts : Halts key node stop

  -- where the descent ended at the key's leaf, the slot has that leaf
  abbrev pub HasLeafFor : NodeTable P → ℕ → Stop → Type 0
  HasLeafFor s slot (Differs at) = Unit {0}
  HasLeafFor s slot (Absent b) = Unit {0}
  HasLeafFor s slot (Leaf b) = HasLeafAt s slot

  -- the key has no payload where the descent ended
  abbrev pub NothingIsStored : NodeTable P → ℕ → Stop → Type 0
  NothingIsStored s slot (Differs at) = Unit {0}
  NothingIsStored s slot (Absent b) = Unit {0}
  NothingIsStored s slot (Leaf b) = HasNothingUnder s slot b

  -- this is the key's payload where the descent ended
  abbrev pub IsStoredWhere : NodeTable P → ℕ → Stop → P → Type 0
  IsStoredWhere s slot (Differs at) v = ⊥
  IsStoredWhere s slot (Absent b) v = ⊥
  IsStoredWhere s slot (Leaf b) v = WasChild s slot b (Payload v)

  -- this payload replaces it
  abbrev pub Exchanges : NodeTable P → NodeTable P → ℕ → Stop → P → Type 0
  Exchanges s t slot (Differs at) v = ⊥
  Exchanges s t slot (Absent b) v = ⊥
  Exchanges s t slot (Leaf b) v = SameElsewhere slot s t × WritesChild s t slot b (Payload v)

  -- the key's leaf, which had room, has it as one payload more
  abbrev pub Fills : NodeTable P → NodeTable P → ℕ → Stop → P → Type 0
  Fills s t slot (Differs at) v = ⊥
  Fills s t slot (Absent b) v = ⊥
  Fills s t slot (Leaf b) v =
      HasNothingUnder s slot b
      × ((n : TableNode P) → node_at s slot ≡ Some n → Fits n.form (length n.children + 1))
      × SameElsewhere slot s t × WritesChild s t slot b (Payload v)

  -- in place of the previous payload, or in addition
  abbrev pub Sets : NodeTable P → NodeTable P → ℕ → Stop → P → Option P → Type 0
  Sets s t slot stop v (Some before) = IsStoredWhere s slot stop before × Exchanges s t slot stop v
  Sets s t slot stop v None = Fills s t slot stop v

  -- memory may be refused at the end of the descent
  abbrev pub RefusesHere : NodeTable P → ℕ → Stop → Type 0
  RefusesHere s slot (Differs at) = Unit {0}
  RefusesHere s slot (Absent b) = Unit {0}
  RefusesHere s slot (Leaf b) = IsFullAt s slot

  -- the leaf in this slot has room for the pair, and its nodes are counted
  abbrev pub IsReady : NodeTable P → NodeTable P → ℕ → Stop → List ℕ → FormCounts → FormCounts → ℕ → Type 0
  IsReady s t slot (Differs at) key old new leaf =
      SplitsFor s t slot key at leaf × (new ≡ with_form N4 (with_form N4 old))
  IsReady s t slot (Absent b) key old new leaf =
      AddsLeafFor s t slot key b leaf × CountsGrown s slot (with_form N4 old) new
  IsReady s t slot (Leaf b) key old new leaf =
      (leaf ≡ slot) × SameElsewhere slot s t × MakesRoom s t slot × CountsGrown s slot old new
