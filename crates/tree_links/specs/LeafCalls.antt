-- What the calls for one payload of a leaf that has a slot do to the table that is seen.
use Rattle.std.specs.Prelude.{◌≡◌, ◌≢◌, ℕ, ◌+◌, length, Option, Some, None}
use Rattle.std.specs.Option.{option_map}
use Rattle.spec_map.specs.Map.{lookup, put, without}
use Rattle.node_base.specs.Form.{Fits}
use Rattle.spec_node.specs.TableNode.{TableNode}
use Rattle.node_table.specs.Table.{NodeTable, node_at}
use Rattle.spec_node.specs.declared.child.Child.TheVariants.{Payload}
use Rattle.tree_path.specs.inner.Descent.{IsOfOneKind}

module _ {P : Type 0} where
  -- there is a leaf
  pub record HasLeafAt (s : NodeTable P) (i : ℕ) : Type 0 where
    pub node : TableNode P
    pub here : node_at s i ≡ Some node
    pub seven : length node.prefix ≡ 7
    pub kind : IsOfOneKind node

  -- there is a leaf that has room, and nothing under the byte
  pub record HasRoomFor (s : NodeTable P) (i byte : ℕ) : Type 0 where
    pub node : TableNode P
    pub here : node_at s i ≡ Some node
    pub seven : length node.prefix ≡ 7
    pub absent : lookup node.children byte ≡ None
    pub room : Fits node.form (length node.children + 1)

  -- it has this payload under the byte now, in place of the previous one or, where it had room, of none
  pub record SetsPayload (s t : NodeTable P) (i byte : ℕ) (payload : P) (before : Option P) : Type 0 where
    pub node : TableNode P
    pub here : node_at s i ≡ Some node
    pub was : lookup node.children byte ≡ option_map (λ v. Payload v) before
    pub room : before ≡ None → Fits node.form (length node.children + 1)
    pub there : node_at t i ≡ Some (record node { children = put node.children byte (Payload payload) })
    pub others : (o : ℕ) → o ≢ i → node_at t o ≡ node_at s o

  -- it has nothing under the byte
  pub record HasNothing (s : NodeTable P) (i byte : ℕ) : Type 0 where
    pub node : TableNode P
    pub here : node_at s i ≡ Some node
    pub absent : lookup node.children byte ≡ None

  -- and no room for one child more
  pub record IsFullFor (s : NodeTable P) (i byte : ℕ) : Type 0 where
    pub node : TableNode P
    pub here : node_at s i ≡ Some node
    pub absent : lookup node.children byte ≡ None
    pub full : Fits node.form (length node.children + 1) → ⊥

  -- it had this payload there, and has nothing there now
  pub record TakesPayload (s t : NodeTable P) (i byte : ℕ) (before : P) : Type 0 where
    pub node : TableNode P
    pub here : node_at s i ≡ Some node
    pub found : lookup node.children byte ≡ Some (Payload before)
    pub there : node_at t i ≡ Some (record node { children = without node.children byte })
    pub others : (o : ℕ) → o ≢ i → node_at t o ≡ node_at s o
