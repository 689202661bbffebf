-- When a machine is well formed.
use Rattle.std.specs.Prelude.{◌≡◌, ℕ, ◌+◌, List, [], ◌∷◌, ◌++◌, length, Option, Some, IsSome, IsTrue}
use Rattle.node_table.specs.Charge.{Covers}
use Rattle.node_base.specs.Form.{stated_size}
use Rattle.spec_node.specs.Key.{Begins}
use Rattle.spec_map.specs.Map.{Pairs, lookup, IsMap}
use Rattle.spec_node.specs.TableNode.{TableNode, Child, MayHave}
use Rattle.node_base.specs.declared.base_node.NodeType.TheVariants.{N256}
use Rattle.spec_node.specs.declared.child.Child.TheVariants.{Node as node}
use Rattle.spec_olc.specs.Content.{Reaches, HasEntry, IsContent}
use Rattle.spec_olc.specs.Lists.{is_in}
use Rattle.spec_olc.specs.Lock.{IsFree, IsLocked, IsObsolete}
use Rattle.spec_olc.specs.State.{CallState, VersionedNode, State, not_yet, published, retired, unlinked}

module _ {M : Type 0} where
  -- the sum of the stated sizes of these nodes
  abbrev pub sizes_of : List (ℕ × VersionedNode M) → ℕ
  sizes_of [] = 0
  sizes_of (e ∷ es) = stated_size e.1.node.form + sizes_of es

  -- call `id` holds the node in the slot, or has made it
  pub record Holds (s : State M) (id slot : ℕ) : Type 0 where
    pub call : CallState M
    pub in_flight : lookup s.calls id ≡ Some call
    pub mine : IsTrue (is_in slot call.held)

  pub record HasMade (s : State M) (id slot : ℕ) : Type 0 where
    pub call : CallState M
    pub in_flight : lookup s.calls id ≡ Some call
    pub mine : IsTrue (is_in slot call.made)

  -- a node's word, its lifetime and its holders agree
  pub record AgreesWithHolders (s : State M) (slot : ℕ) (a : VersionedNode M) : Type 0 where
    pub reached : Reaches s slot → a.lifetime ≡ published
    pub free : a.lifetime ≡ published → IsFree a.word → Reaches s slot
    pub obsolete_locked : IsObsolete a.word → IsLocked a.word
    pub obsolete_retired : IsObsolete a.word → (stamp : Option ℕ) × (a.lifetime ≡ retired stamp)
    pub retired_obsolete : (stamp : Option ℕ) → a.lifetime ≡ retired stamp → IsObsolete a.word
    pub held : IsLocked a.word → (IsObsolete a.word → ⊥) → (id : ℕ) × Holds s id slot
    pub holds : (id : ℕ) → Holds s id slot
        → (a.lifetime ≡ published) × IsLocked a.word × (IsObsolete a.word → ⊥)
    pub made : a.lifetime ≡ not_yet → (id : ℕ) × HasMade s id slot

  pub record IsWellFormed (s : State M) : Type 0 where
    pub nodes : IsMap s.nodes
    pub calls : IsMap s.calls
    pub root : VersionedNode M
    pub root_here : lookup s.nodes s.root ≡ Some root
    pub root_form : root.node.form ≡ N256
    pub root_prefix : root.node.prefix ≡ []
    pub shape : (slot byte : ℕ) (child : Child M) (e : HasEntry s slot byte child)
        → MayHave e.above.node.prefix child
    pub below : (slot byte below : ℕ) (e : HasEntry s slot byte (node below))
        → (child : VersionedNode M) × (lookup s.nodes below ≡ Some child)
        × Begins (e.above.node.prefix ++ byte ∷ []) child.node.prefix
    pub one_way : (i j x y below : ℕ) → HasEntry s i x (node below) → HasEntry s j y (node below)
        → (i ≡ j) × (x ≡ y)
    pub none_above_root : (slot byte : ℕ) → HasEntry s slot byte (node s.root) → ⊥
    pub kept : (slot : ℕ) (a : VersionedNode M) → lookup s.nodes slot ≡ Some a → AgreesWithHolders s slot a
    pub held : (id slot : ℕ) → Holds s id slot → IsSome (lookup s.nodes slot)
    pub made : (id slot : ℕ) → HasMade s id slot
        → (a : TableNode M) × (lookup s.nodes slot ≡ Some (unlinked a))
    pub held_once : (i j slot : ℕ) → Holds s i slot → Holds s j slot → i ≡ j
    pub made_once : (i j slot : ℕ) → HasMade s i slot → HasMade s j slot → i ≡ j
    pub charged : Covers s.charge (sizes_of s.nodes)
    pub counted : (m : Pairs M) → IsContent s m → s.entries ≡ length m
