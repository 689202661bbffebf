-- WHAT A CALL KNOWS before each event of a cleanup.
use Rattle.std.specs.Prelude.{Bool, ◌≡◌, ◌≢◌, ℕ, ◌<◌, ◌≤◌, IsTrue, ◌↔◌, List, [], length, Some, None}
use Rattle.node_base.specs.Form.{few_in, smaller_form}
use Rattle.spec_node.specs.Key.{Begins}
use Rattle.spec_node.specs.TableNode.{TableNode}
use Rattle.spec_olc.specs.Reading.{IsSeenOf}
use Rattle.spec_olc.specs.declared.types.Seen.{Seen}
use Rattle.olc_state.specs.declared.cleanup.Cleanup.{Cleanup}
use Rattle.olc_state.specs.declared.cleanup.Seek.{Seek}
use Rattle.olc_state.specs.declared.cleanup.Seek.TheVariants as seek
use Rattle.olc_state.specs.declared.cleanup.Tidy.{Tidy}
use Rattle.olc_state.specs.declared.cleanup.Tidy.TheVariants as tidy
use Rattle.olc_state.specs.declared.stage.Path.{Path}
use Rattle.olc_state.specs.declared.stage.Task.{Task}
use Rattle.olc_state.specs.declared.tail.NodePair.{NodePair}
use Rattle.olc_state.specs.inner.Tables.{IsThere, Known, LedTo, OnPath, While}
use Rattle.olc_state.specs.inner.TailFacts.{AreHeld, IsAbove, IsHeld, IsPrivateOf, LeadsBelow, found}
use Rattle.olc_state.specs.inner.Tasks.{CleansUp, SawNode, key_bytes}
use Rattle.olc_state.specs.inner.World.{PlacedNode, NodeMap}

module _ {M : Type 0} where
  -- the node is on the key's way, and not below a prefix of this length
  abbrev pub ReachesTo : List ℕ → ℕ → TableNode M → Type 0
  ReachesTo k most a = Begins a.prefix k × (length a.prefix ≤ most)

  abbrev pub IsWithin : NodeMap M → ℕ → List ℕ → ℕ → Type 0
  IsWithin t slot k most = (a : PlacedNode M) → t slot ≡ Some a → ReachesTo k most a.node

  -- the node is there
  abbrev pub IsAtDepth : List ℕ → ℕ → TableNode M → Type 0
  IsAtDepth k depth a = Begins a.prefix k × (length a.prefix ≡ depth)

  abbrev pub HasDepth : NodeMap M → ℕ → List ℕ → ℕ → Type 0
  HasDepth t slot k depth = (a : PlacedNode M) → t slot ≡ Some a → IsAtDepth k depth a.node

  -- the node isn't as deep
  abbrev pub IsNearer : NodeMap M → ℕ → ℕ → Type 0
  IsNearer t slot depth = (a : PlacedNode M) → t slot ≡ Some a → length a.node.prefix < depth

  -- a test of whether it reaches there
  abbrev pub LeadsTo : NodeMap M → ℕ → List ℕ → ℕ → Bool → Type 0
  LeadsTo t slot k most fits = (a : PlacedNode M) → t slot ≡ Some a → IsTrue fits ↔ ReachesTo k most a.node

  -- its last Read reported the child under the key's byte; a payload, if each share is granted
  pub record SawBelow (Granted : Type 0) (t : NodeMap M) (path : Path) (task : Task M) : Type 0 where
    pub seen : Seen M
    pub is : task.last ≡ Some seen
    pub child : While t path.here (λ a. IsSeenOf Granted (found a (key_bytes task)) seen.child)

  -- on its way down
  pub record IsSeeking (t : NodeMap M) (root pin : ℕ) (task : Task M) (c : Cleanup) (path : Path) : Type 0 where
    pub cleans : CleansUp task c
    pub on : OnPath t root pin (key_bytes task) path
    pub within : IsWithin t path.here.slot (key_bytes task) c.length

  abbrev pub SeekFacts : Type 0 → NodeMap M → ℕ → ℕ → Task M → Cleanup → Seek → Type 0
  SeekFacts Granted t root pin task c seek.TakeRoot = CleansUp task c × (task.last ≡ None)
  SeekFacts Granted t root pin task c (seek.Read path) = IsSeeking t root pin task c path
  SeekFacts Granted t root pin task c (seek.Check path) =
      IsSeeking t root pin task c path × SawBelow Granted t path task
  SeekFacts Granted t root pin task c (seek.TakeBelow path slot) = IsSeeking t root pin task c path
      × LedTo t path.here (key_bytes task) slot × IsThere t pin slot
      × (slot ≢ root) × (slot ≢ path.here.slot)
      × SawNode task.last slot × IsNearer t path.here.slot c.length
  SeekFacts Granted t root pin task c (seek.CheckAbove path spot fits) = IsSeeking t root pin task c path
      × LedTo t path.here (key_bytes task) spot.slot × Known t pin spot
      × LeadsTo t spot.slot (key_bytes task) c.length fits
      × (spot.slot ≢ path.here.slot)
      × SawNode task.last spot.slot × IsNearer t path.here.slot c.length

  -- the copy of a node that takes its place
  abbrev pub smaller_of : TableNode M → TableNode M
  smaller_of a = record a { form = smaller_form a.form }

  -- both are held, and the node may be cleaned up
  pub record CleansAt (t : NodeMap M) (task : Task M) (c : Cleanup) (pair : NodePair) : Type 0 where
    pub cleans : CleansUp task c
    pub held : AreHeld t pair (key_bytes task)
    pub reaches : IsAtDepth (key_bytes task) c.length held.here.node.node

  abbrev pub TidyFacts : NodeMap M → ℕ → Task M → Cleanup → Tidy → Type 0
  TidyFacts t pin task c (tidy.UpgradeAbove pair) = CleansUp task c × IsAbove t pair (key_bytes task)
      × Known t pin pair.above × LedTo t pair.above (key_bytes task) pair.here.slot
      × Known t pin pair.here × HasDepth t pair.here.slot (key_bytes task) c.length
  TidyFacts t pin task c (tidy.UpgradeBelow pair) = CleansUp task c × IsAbove t pair (key_bytes task)
      × ((above : IsHeld t pair.above) × LeadsBelow above.node (key_bytes task) pair.here.slot)
      × Known t pin pair.here × HasDepth t pair.here.slot (key_bytes task) c.length
  TidyFacts t pin task c (tidy.TakeAway pair) =
      (at : CleansAt t task c pair) × (at.held.here.node.node.children ≡ [])
  TidyFacts t pin task c (tidy.MakeSmaller pair) = (at : CleansAt t task c pair)
      × (length at.held.here.node.node.children ≤ few_in at.held.here.node.node.form)
  TidyFacts t pin task c (tidy.PutSmaller pair copy) =
      (at : CleansAt t task c pair) × IsPrivateOf t copy (smaller_of at.held.here.node.node)
      × (length at.held.here.node.node.children ≤ few_in at.held.here.node.node.form)
  TidyFacts t pin task c (tidy.UnlockBelow pair) = (at : CleansAt t task c pair)
      × (few_in at.held.here.node.node.form < length at.held.here.node.node.children)
