-- What a call may make and write: what it stores, what it has made, and copies of what it holds.
use Rattle.std.specs.Prelude.{◌≡◌, ℕ, Bool, false, List, [], ◌∷◌, ◌++◌, length, map, Option, Some, None, IsTrue, if◌then◌else◌, ◌⊎◌}
use Rattle.node_base.specs.Form.{Fits, next_form, smaller_form}
use Rattle.node_base.specs.declared.base_node.NodeType.{NodeType}
use Rattle.node_base.specs.declared.base_node.NodeType.TheVariants.{N4}
use Rattle.spec_node.specs.Key.{Begins, next_byte}
use Rattle.spec_map.specs.Map.{lookup, put, with_answer, Rises}
use Rattle.spec_node.specs.TableNode.{TableNode, Child, MayHave}
use Rattle.spec_node.specs.declared.child.Child.TheVariants.{Payload, Node as node}
use Rattle.spec_olc.specs.Calls.{bytes_of, stored}
use Rattle.spec_olc.specs.Lists.{is_in}
use Rattle.spec_olc.specs.State.{CallState, Cleaning, VersionedNode, State, publish}

-- the form of a copy: the next larger one, or in a cleanup the next smaller one
abbrev pub copy_form : Option Cleaning → NodeType → NodeType
copy_form None form = next_form form
copy_form (Some c) form = smaller_form form

module _ {M : Type 0} where
  -- the byte of the call's key that follows a prefix
  abbrev pub byte_below : CallState M → List ℕ → ℕ
  byte_below call prefix = next_byte prefix (bytes_of call.cursor)

  -- an entry of its own: the payload that it stores, a node that it made, or None if it stores none
  abbrev pub IsOwn : CallState M → Option (Child M) → Type 0
  IsOwn call None = stored call.op call.asking ≡ None
  IsOwn call (Some (Payload v)) = stored call.op call.asking ≡ Some v
  IsOwn call (Some (node slot)) = IsTrue (is_in slot call.made)

  -- a node that the call holds
  pub record HeldNode (s : State M) (call : CallState M) : Type 0 where
    pub slot : ℕ
    pub node : VersionedNode M
    pub mine : IsTrue (is_in slot call.held)
    pub here : lookup s.nodes slot ≡ Some node

  pub record IsCopy (s : State M) (call : CallState M) (a : TableNode M) : Type 0 where
    pub from : HeldNode s call
    pub prefix_is : from.node.node.prefix ≡ a.prefix
    pub form_is : a.form ≡ copy_form call.cleaning from.node.node.form

  -- a held node itself, which moves below a new one
  pub record IsMoved (s : State M) (call : CallState M) (prefix : List ℕ) (byte : ℕ)
      (child : Child M) : Type 0 where
    pub moved : HeldNode s call
    pub is : child ≡ node moved.slot
    pub begins : Begins (prefix ++ byte ∷ []) moved.node.node.prefix

  -- any other new node is a Node4, and a leaf if it has one child
  abbrev pub IsFirst : TableNode M → Type 0
  IsFirst a = (a.form ≡ N4) × (length a.children ≡ 1 → length a.prefix ≡ 7)

  -- A NEW NODE of a call: its prefix begins the call's key; each entry is its own, copied or moved
  pub record IsNewNode (s : State M) (call : CallState M) (a : TableNode M) : Type 0 where
    pub way : Begins a.prefix (bytes_of call.cursor)
    pub ascending : Rises 0 256 a.children
    pub fits : Fits a.form (length a.children)
    pub form_is : IsFirst a ⊎ IsCopy s call a
    pub entries : (byte : ℕ) (child : Child M) → lookup a.children byte ≡ Some child
        → MayHave a.prefix child
        × (((byte ≡ byte_below call a.prefix) × IsOwn call (Some child))
        ⊎ (((c : IsCopy s call a) × (lookup c.from.node.node.children byte ≡ Some child))
        ⊎ IsMoved s call a.prefix byte child))

  abbrev pub with_children : VersionedNode M → List (ℕ × Child M) → VersionedNode M
  with_children a children = record a { node = record a.node { children = children } }

  -- the node with this entry under the call's byte, or with none there
  abbrev pub changed : CallState M → VersionedNode M → Option (Child M) → VersionedNode M
  changed call a child =
      with_children a (with_answer a.node.children (byte_below call a.node.prefix) child)

  -- the nodes, with those in these slots published
  abbrev pub linked : List ℕ → List (ℕ × VersionedNode M) → List (ℕ × VersionedNode M)
  linked made nodes = map (λ e. if is_in e.0 made then (e.0, publish e.1) else e) nodes

  -- the entry of a node under the call's byte
  abbrev pub entry_below : CallState M → VersionedNode M → Option (Child M)
  entry_below call a = lookup a.node.children (byte_below call a.node.prefix)

  -- The node that a Write takes out: one that the call holds, if it was the entry and None replaces
  -- it. The Write empties it. A node that another one replaces keeps its children.
  abbrev pub TakesOut :
      State M → CallState M → Option (Child M) → Option (Child M) → Option (ℕ × VersionedNode M) → Type 0
  TakesOut s call (Some (node slot)) None gone =
      (held : HeldNode s call) × (held.slot ≡ slot) × (gone ≡ Some (slot, held.node))
  TakesOut s call was child gone = gone ≡ None

  abbrev pub emptied : Option (ℕ × VersionedNode M) → List (ℕ × VersionedNode M) → List (ℕ × VersionedNode M)
  emptied None nodes = nodes
  emptied (Some (slot, leaf)) nodes = put nodes slot (with_children leaf [])

  -- THE WRITE: the held node has its new entry, what was made is published, what is taken out empty
  abbrev pub written : (s : State M) (call : CallState M) → HeldNode s call → Option (Child M)
      → Option (ℕ × VersionedNode M) → State M
  written s call held child gone = record s {
    nodes = emptied gone (linked call.made (put s.nodes held.slot (changed call held.node child)));
  }

  -- an entry is entered, removed, or replaced by one that isn't the same
  abbrev pub IsChanged : (M → M → Bool) → Option (Child M) → Option (Child M) → Type 0
  IsChanged same None None = ⊥
  IsChanged same (Some (Payload old)) (Some (Payload new)) = same new old ≡ false
  IsChanged same was child = Unit {0}
