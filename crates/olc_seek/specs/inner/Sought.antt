-- What a call that cleans up finds at a node on its key's path.
use Rattle.std.specs.Prelude.{◌≡◌, ◌≢◌, ℕ, ◌<◌, ◌≤◌, List, length, Option, Some, None, ◌⊎◌}
use Rattle.spec_map.specs.Map.{lookup}
use Rattle.spec_node.specs.Key.{next_byte}
use Rattle.spec_node.specs.TableNode.{TableNode, Child}
use Rattle.spec_node.specs.declared.child.Child.TheVariants.{Node as below_at}
use Rattle.spec_olc.specs.Reading.{IsSeenOf}
use Rattle.spec_olc.specs.declared.types.Seen.{Seen}
use Rattle.olc_state.specs.declared.stage.Path.{Path}
use Rattle.olc_descend.specs.inner.Looked.{IsFull}
use Rattle.olc_seek.specs.declared.checking.Found.{Found}
use Rattle.olc_seek.specs.declared.checking.Found.TheVariants.{Here, Below, Nothing}

-- the child under a key's byte
abbrev pub under : {M : Type 0} → TableNode M → List ℕ → Option (Child M)
under a k = lookup a.children (next_byte a.prefix k)

-- what its Read reports: a payload only if each share is granted
pub record IsSought {M : Type 0} (Granted : Type 0) (a : TableNode M) (k : List ℕ) (s : Seen M)
    : Type 0 where
  pub child : IsSeenOf Granted (under a k) s.child
  pub count : s.count ≡ length a.children
  pub full : IsFull a.form (length a.children) s.full

-- the node has the prefix of this length and a parent, or leads to another node, or neither
abbrev pub IsFound : {M : Type 0} → TableNode M → List ℕ → ℕ → Path → Found → Type 0
IsFound a k length_is path (Here pair) = (length_is ≤ length a.prefix)
    × (path ≡ record { above = Some pair.above; here = pair.here })
IsFound a k length_is path (Below slot) = (length a.prefix < length_is)
    × (under a k ≡ Some (below_at slot))
IsFound a k length_is path Nothing = ((length_is ≤ length a.prefix) × (path.above ≡ None))
    ⊎ ((length a.prefix < length_is) × ((slot : ℕ) → under a k ≢ Some (below_at slot)))
