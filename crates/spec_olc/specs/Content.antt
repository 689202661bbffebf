-- The reachable nodes, and the map that they store.
use Rattle.std.specs.Prelude.{◌≡◌, ℕ, [], ◌∷◌, ◌++◌, Option, Some, None, ◌↔◌}
use Rattle.spec_node.specs.Key.{low}
use Rattle.spec_map.specs.Map.{Pairs, lookup, IsMap}
use Rattle.spec_node.specs.TableNode.{Child}
use Rattle.spec_node.specs.declared.child.Child.TheVariants.{Payload, Node as node}
use Rattle.spec_olc.specs.State.{VersionedNode, State}

module _ {M : Type 0} where
  -- the slot is reachable: the root's, or that of a child of a reachable node
  pub data Reaches (s : State M) : ℕ → Type 0 where
    at_root : Reaches s s.root
    by_child : {below : ℕ} (above byte : ℕ) (a : VersionedNode M) → Reaches s above
        → lookup s.nodes above ≡ Some a → lookup a.node.children byte ≡ Some (node below)
        → Reaches s below

  -- the node in this slot is reachable and has this child under this byte
  pub record HasEntry (s : State M) (slot byte : ℕ) (child : Child M) : Type 0 where
    pub above : VersionedNode M
    pub reaches : Reaches s slot
    pub here : lookup s.nodes slot ≡ Some above
    pub entry : lookup above.node.children byte ≡ Some child

  -- the value is stored at the key: a payload of a reachable node; its prefix and byte are the key
  pub record IsStoredAt (s : State M) (key : ℕ) (value : M) : Type 0 where
    pub slot : ℕ
    pub byte : ℕ
    pub payload : HasEntry s slot byte (Payload value)
    pub key_is : key ≡ low (payload.above.node.prefix ++ byte ∷ [])

  -- what is stored at the key now: this value, or nothing
  abbrev pub IsCurrent : State M → ℕ → Option M → Type 0
  IsCurrent s key (Some value) = IsStoredAt s key value
  IsCurrent s key None = (value : M) → IsStoredAt s key value → ⊥

  -- THE CONTENT: the map of all payloads of reachable nodes, each at its key
  pub record IsContent (s : State M) (m : Pairs M) : Type 0 where
    pub map : IsMap m
    pub pairs : (key : ℕ) (value : M) → (lookup m key ≡ Some value) ↔ IsStoredAt s key value
