-- What removing a payload or a node does to the table.
use Rattle.std.specs.Prelude.{◌≡◌, ◌≢◌, ℕ, List, Some, IsSome}
use Rattle.spec_map.specs.Map.{lookup, without}
use Rattle.spec_node.specs.Key.{next_byte}
use Rattle.spec_node.specs.TableNode.{TableNode}
use Rattle.spec_node.specs.declared.child.Child.TheVariants.{Node}
use Rattle.node_table.specs.Table.{NodeTable, node_at}
use Rattle.tree_path.specs.declared.descent.Stop.{Stop}
use Rattle.tree_path.specs.declared.descent.Stop.TheVariants as stops
use Rattle.tree_edit.specs.inner.Writes.{SameElsewhere}

module _ {P : Type 0} where
  -- the node has nothing under this byte any more, and its prefix and form are unchanged
  abbrev pub Loses : TableNode P → ℕ → TableNode P → Type 0
  Loses n byte m = (m.prefix ≡ n.prefix) × (m.children ≡ without n.children byte) × (m.form ≡ n.form)

  -- the slot's node has nothing under this byte any more
  abbrev pub TakesChild : NodeTable P → NodeTable P → ℕ → ℕ → Type 0
  TakesChild s t slot byte =
      (n : TableNode P) → node_at s slot ≡ Some n
      → (m : TableNode P) × (node_at t slot ≡ Some m) × Loses n byte m

  -- the same under the byte of the key's path
  abbrev pub TakesOnPath : NodeTable P → NodeTable P → ℕ → List ℕ → Type 0
  TakesOnPath s t slot key =
      (n : TableNode P) → node_at s slot ≡ Some n
      → (m : TableNode P) × (node_at t slot ≡ Some m) × Loses n (next_byte n.prefix key) m

  -- every node but those in two slots is unchanged
  abbrev pub KeepsBut : ℕ → ℕ → NodeTable P → NodeTable P → Type 0
  KeepsBut slot j s t = (i : ℕ) → i ≢ slot → i ≢ j → node_at t i ≡ node_at s i

  -- the key's path leads from the node in one slot to that in another
  pub record IsChildOnPath (s : NodeTable P) (parent slot : ℕ) (key : List ℕ) : Type 0 where
    pub above : TableNode P
    pub above_here : node_at s parent ≡ Some above
    pub found : lookup above.children (next_byte above.prefix key) ≡ Some (Node slot)
    pub here : IsSome (node_at s slot)
    pub apart : slot ≢ parent

  -- the payload where the descent ended is removed
  abbrev pub TakesPayload : NodeTable P → NodeTable P → ℕ → Stop → Type 0
  TakesPayload s t slot (stops.Differs at) = ⊥
  TakesPayload s t slot (stops.Absent b) = ⊥
  TakesPayload s t slot (stops.Leaf b) = SameElsewhere slot s t × TakesChild s t slot b
