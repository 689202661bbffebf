-- WHAT A CALL KNOWS before each event of a tail: what it has seen of the node until that is locked, what the node
-- contains once it is, and what its private nodes contain.
use Rattle.std.specs.Prelude.{Bool, false, IsTrue, ◌≡◌, ◌≢◌, ℕ, ◌+◌, ◌<◌, List, [], ◌∷◌, length, take, Option, Some, None, IsSome, ◌⊎◌}
use Rattle.node_base.specs.Form.{Fits, next_form}
use Rattle.node_base.specs.declared.base_node.NodeType.TheVariants.{N4}
use Rattle.spec_map.specs.Map.{put}
use Rattle.spec_node.specs.Key.{Begins, next_byte}
use Rattle.spec_node.specs.TableNode.{TableNode, Child}
use Rattle.spec_node.specs.declared.child.Child.TheVariants.{Payload, Node as below_at}
use Rattle.spec_olc.specs.Calls.{stored}
use Rattle.spec_olc.specs.Local.{payload_in, seen_payload}
use Rattle.spec_olc.specs.declared.types.Asking.TheVariants.{Wants}
use Rattle.spec_olc.specs.declared.types.Progress.TheVariants as progress
use Rattle.spec_olc.specs.Lock.{IsFree, version, last_version}
use Rattle.olc_state.specs.declared.cleanup.Cleanup.{Cleanup}
use Rattle.olc_state.specs.declared.stage.Path.{Path}
use Rattle.olc_state.specs.declared.stage.Spot.{Spot}
use Rattle.olc_state.specs.declared.stage.Task.{Task}
use Rattle.olc_state.specs.declared.tail.Case.{Case}
use Rattle.olc_state.specs.declared.tail.Case.TheVariants as case
use Rattle.olc_state.specs.declared.tail.Large.{Large}
use Rattle.olc_state.specs.declared.tail.Large.TheVariants.{GrowLeaf, GrowInner, Split, Detach}
use Rattle.olc_state.specs.declared.tail.NodePair.{NodePair}
use Rattle.olc_state.specs.declared.tail.Small.{Small}
use Rattle.olc_state.specs.declared.tail.Small.TheVariants.{Entry, Leaf}
use Rattle.olc_state.specs.declared.tail.Tail.{Tail}
use Rattle.olc_state.specs.declared.tail.Tail.TheVariants.{Upgrade, Write, MakeLeaf, Link, Unlock, UpgradeAbove, UpgradeBelow, MakeLeafBelow, Grow, MakeMiddle, Replace, Insert, Obsolete, UnlockBelow}
use Rattle.olc_state.specs.declared.tail.Tail.TheVariants as tail
use Rattle.olc_state.specs.inner.Effects.{HasClosure, IsChange, IsOrInsert}
use Rattle.olc_state.specs.inner.Tables.{byte_at, IsLinked, Known, OnWay, While, LedTo, OnPath}
use Rattle.olc_state.specs.inner.Tasks.{CleansUp, IsOpen, MaySee, key_bytes}
use Rattle.olc_state.specs.inner.World.{PlacedNode, NodeMap, entry, is_private, is_detached}

-- both go on from the prefix, each by a byte of its own
pub record IsFork (prefix p k : List ℕ) : Type 0 where
  pub left : Begins prefix p
  pub right : Begins prefix k
  pub shorter : length prefix < length p
  pub apart : next_byte prefix p ≢ next_byte prefix k

-- which growth it is, by the copy's own leaf
abbrev pub is_for : Option ℕ → Large
is_for None = GrowLeaf
is_for (Some leaf) = GrowInner

-- these make a new leaf for the key
abbrev pub HasNewLeaf : Large → Type 0
HasNewLeaf GrowLeaf = ⊥
HasNewLeaf GrowInner = Unit {0}
HasNewLeaf Split = Unit {0}
HasNewLeaf Detach = ⊥

-- the path to the lower of two nodes
abbrev pub path_to : NodePair → Path
path_to pair = record { above = Some pair.above; here = pair.here }

module _ {M : Type 0} where
  -- a node in the tree that this call has locked, and that it can unlock
  pub record IsHeld (t : NodeMap M) (spot : Spot) : Type 0 where
    pub node : PlacedNode M
    pub linked : IsLinked t spot.slot node
    pub word : node.word ≡ spot.word + 2
    pub free : IsFree spot.word
    pub room : version spot.word ≢ last_version

  -- one that this call has locked and taken out of the tree
  pub record IsOut (t : NodeMap M) (spot : Spot) : Type 0 where
    pub node : PlacedNode M
    pub here : t spot.slot ≡ Some node
    pub lifetime : node.lifetime ≡ is_detached
    pub word : node.word ≡ spot.word + 2
    pub free : IsFree spot.word

  -- a private node of this call
  pub record IsPrivateOf (t : NodeMap M) (slot : ℕ) (a : TableNode M) : Type 0 where
    pub node : PlacedNode M
    pub here : t slot ≡ Some node
    pub lifetime : node.lifetime ≡ is_private
    pub word : node.word ≡ 0
    pub is : node.node ≡ a

  -- the child under the key's byte of a node
  abbrev pub found : PlacedNode M → List ℕ → Option (Child M)
  found a k = entry a (byte_at a k)

  abbrev pub HasRoom : PlacedNode M → Type 0
  HasRoom a = Fits a.node.form (length a.node.children + 1)

  abbrev pub stores : Task M → Option M
  stores task = stored task.op task.asking

  -- a node leads to another by the key's byte
  abbrev pub LeadsBelow : PlacedNode M → List ℕ → ℕ → Type 0
  LeadsBelow a k slot = found a k ≡ Some (below_at slot)

  -- THE NEW NODES: the leaf of a key, a node with one entry more, and a node that is put between
  abbrev pub leaf_of : List ℕ → M → TableNode M
  leaf_of k v = record {
    form = N4;
    prefix = take 7 k;
    children = (next_byte (take 7 k) k, Payload v) ∷ [];
  }

  abbrev pub grown_by : PlacedNode M → List ℕ → Child M → TableNode M
  grown_by a k child = record {
    form = next_form a.node.form;
    prefix = a.node.prefix;
    children = put a.node.children (byte_at a k) child;
  }

  abbrev pub middle_of : List ℕ → PlacedNode M → ℕ → List ℕ → ℕ → TableNode M
  middle_of prefix a slot k leaf = record {
    form = N4;
    prefix = prefix;
    children = put ((next_byte prefix a.node.prefix, below_at slot) ∷ []) (next_byte prefix k)
        (below_at leaf);
  }

  -- WHAT IS TO BE DONE at a node that is on the key's way, or, at a split, isn't
  abbrev pub IsSmall : Small → PlacedNode M → List ℕ → Type 0
  IsSmall Entry a k = (length a.node.prefix ≡ 7) × (found a k ≡ None → HasRoom a)
  IsSmall Leaf a k = (length a.node.prefix < 7) × (found a k ≡ None) × HasRoom a

  abbrev pub IsLarge : Large → PlacedNode M → List ℕ → Type 0
  IsLarge GrowLeaf a k = Begins a.node.prefix k × (length a.node.prefix ≡ 7) × (found a k ≡ None)
      × (HasRoom a → ⊥)
  IsLarge GrowInner a k = Begins a.node.prefix k × (length a.node.prefix < 7) × (found a k ≡ None)
      × (HasRoom a → ⊥)
  IsLarge Split a k = Begins a.node.prefix k → ⊥
  IsLarge Detach a k = Begins a.node.prefix k × (length a.node.prefix ≡ 7)
      × ((v : M) × (found a k ≡ Some (Payload v))) × (length a.node.children ≡ 1)

  -- the current value of the key there
  abbrev pub stands_at : Large → PlacedNode M → List ℕ → Option M
  stands_at Detach a k = payload_in (found a k)
  stands_at large a k = None

  -- a leaf is taken out only if nothing is stored
  abbrev pub MayStore : Large → Option M → Type 0
  MayStore Detach value = value ≡ None
  MayStore large value = Unit {0}

  -- the parent is on the key's way, and not the node itself
  pub record IsAbove (t : NodeMap M) (pair : NodePair) (k : List ℕ) : Type 0 where
    pub way : OnWay t pair.above.slot k
    pub apart : pair.above.slot ≢ pair.here.slot

  -- BOTH ARE HELD: the parent leads to the node
  pub record AreHeld (t : NodeMap M) (pair : NodePair) (k : List ℕ) : Type 0 where
    pub over : IsAbove t pair k
    pub above : IsHeld t pair.above
    pub here : IsHeld t pair.here
    pub leads : LeadsBelow above.node k pair.here.slot

  -- the leaf that the call has made for its key
  pub record HasLeaf (t : NodeMap M) (task : Task M) (leaf : ℕ) : Type 0 where
    pub value : M
    pub stores : stores task ≡ Some value
    pub made : IsPrivateOf t leaf (leaf_of (key_bytes task) value)

  -- what a grown copy has under the key's byte: the payload, or the new leaf
  abbrev pub HasOwn : NodeMap M → Task M → Option ℕ → Child M → Type 0
  HasOwn t task None child = (v : M) × (stores task ≡ Some v) × (child ≡ Payload v)
  HasOwn t task (Some leaf) child = HasLeaf t task leaf × (child ≡ below_at leaf)

  abbrev pub HasOwnLeaf : NodeMap M → Task M → Option ℕ → Type 0
  HasOwnLeaf t task None = Unit {0}
  HasOwnLeaf t task (Some leaf) = HasLeaf t task leaf

  -- the copy with one entry more
  pub record HasCopy (t : NodeMap M) (task : Task M) (a : PlacedNode M) (copy : ℕ) (leaf : Option ℕ)
      : Type 0 where
    pub child : Child M
    pub own : HasOwn t task leaf child
    pub made : IsPrivateOf t copy (grown_by a (key_bytes task) child)

  -- the node that is put between
  pub record HasMiddle (t : NodeMap M) (task : Task M) (a : PlacedNode M) (slot middle leaf : ℕ)
      : Type 0 where
    pub prefix : List ℕ
    pub fork : IsFork prefix a.node.prefix (key_bytes task)
    pub made : IsPrivateOf t middle (middle_of prefix a slot (key_bytes task) leaf)

-- If `Granted` holds, a share is always granted. `same` compares two payloads.
module _ {M : Type 0} (Granted : Type 0) (same : M → M → Bool) where
  -- A CALL THAT WRITES: it has no reply yet, and for this current value of its key, as its last Read reported, it
  -- stores its value
  pub record WritesAtKey (task : Task M) (at_key : Option M) : Type 0 where
    pub opened : IsOpen task
    pub value : Option M
    pub stores : stores task ≡ value
    pub change : IsChange same opened.op task.asking at_key value
    pub read : IsSome task.last
    pub seen : MaySee Granted same task → seen_payload task.last ≡ at_key

  -- the same, whatever the current value is
  abbrev pub Writing : Task M → Type 0
  Writing task = (at_key : Option M) × WritesAtKey task at_key

  -- what is to be done at a node, or at its parent
  pub record SmallWork (small : Small) (task : Task M) (a : PlacedNode M) : Type 0 where
    pub writes : WritesAtKey task (payload_in (found a (key_bytes task)))
    pub is : IsSmall small a (key_bytes task)
    pub differs : (old new : M) → found a (key_bytes task) ≡ Some (Payload old)
        → stores task ≡ Some new → same new old ≡ false

  pub record LargeWork (large : Large) (task : Task M) (a : PlacedNode M) : Type 0 where
    pub writes : WritesAtKey task (stands_at large a (key_bytes task))
    pub is : IsLarge large a (key_bytes task)
    pub may : MayStore large writes.value

  -- IT WAITS FOR ITS CLOSURE, which is called with what the last Read reported
  pub record WaitsForAnswer (task : Task M) : Type 0 where
    pub opened : IsOpen task
    pub closure : HasClosure task.outline
    pub wants : task.asking ≡ Wants (seen_payload task.last)
    pub read : IsSome task.last

  -- the same, if the key is absent
  pub record WaitsFor (task : Task M) : Type 0 where
    pub waits : WaitsForAnswer task
    pub inserts : IsOrInsert task.outline
    pub none : seen_payload task.last ≡ None

  -- the leaf has a payload at the key, as the last Read reported
  pub record IsPresent (only : Bool) (task : Task M) (a : PlacedNode M) : Type 0 where
    pub full : length a.node.prefix ≡ 7
    pub value : M
    pub at_key : found a (key_bytes task) ≡ Some (Payload value)
    pub seen : seen_payload task.last ≡ Some value
    pub alone : IsTrue only → length a.node.children ≡ 1

  -- the closure answered the current value
  pub record IsConfirmed (task : Task M) (a : PlacedNode M) : Type 0 where
    pub closure : HasClosure task.outline
    pub value : M
    pub at_key : found a (key_bytes task) ≡ Some (Payload value)
    pub writes : WritesAtKey task (Some value)
    pub stays : writes.value ≡ Some value

  -- what is to be done if the key is absent
  abbrev pub SmallCase : Small → Task M → PlacedNode M → Type 0
  SmallCase small task a = (found a (key_bytes task) ≡ None) × IsSmall small a (key_bytes task)

  abbrev pub LargeCase : Large → Task M → PlacedNode M → Type 0
  LargeCase large task a =
      (stands_at large a (key_bytes task) ≡ None) × IsLarge large a (key_bytes task)

  abbrev pub CaseFacts : NodeMap M → ℕ → ℕ → Task M → Case → Type 0
  CaseFacts t root pin task (case.Present pair only) = WaitsForAnswer task
      × OnPath t root pin (key_bytes task) (path_to pair)
      × While t pair.here (IsPresent only task) × IsSome (seen_payload task.last)
  CaseFacts t root pin task (case.Small path small) = WaitsFor task
      × OnPath t root pin (key_bytes task) path × While t path.here (SmallCase small task)
  CaseFacts t root pin task (case.Large pair large) = WaitsFor task
      × IsAbove t pair (key_bytes task) × Known t pin pair.here
      × While t pair.here (LargeCase large task) × Known t pin pair.above
      × LedTo t pair.above (key_bytes task) pair.here.slot

  -- before the second upgrade: the node is known, and the parent led to it
  pub record Below (t : NodeMap M) (pin : ℕ) (task : Task M) (pair : NodePair) (large : Large)
      : Type 0 where
    pub opened : IsOpen task
    pub writing : Writing task
    pub over : IsAbove t pair (key_bytes task)
    pub here : Known t pin pair.here
    pub work : While t pair.here (LargeWork large task)

  -- one node is held, and two
  pub record AtNode (t : NodeMap M) (task : Task M) (spot : Spot) (small : Small) : Type 0 where
    pub way : OnWay t spot.slot (key_bytes task)
    pub held : IsHeld t spot
    pub work : SmallWork small task held.node

  pub record AtPair (t : NodeMap M) (task : Task M) (pair : NodePair) (large : Large) : Type 0 where
    pub held : AreHeld t pair (key_bytes task)
    pub work : LargeWork large task held.here.node

  -- the call has its reply, or was refused
  abbrev pub IsOver : Task M → Type 0
  IsOver task = task.progress ≢ progress.Open

  -- the same, and it cleans up after that if it has to
  abbrev pub EndsWith : Task M → Option Cleanup → Type 0
  EndsWith task None = IsOver task
  EndsWith task (Some c) = CleansUp task c

  -- one that unlocks its last node has its reply, or goes back to the root
  abbrev pub UnlocksWith : Task M → Option Cleanup → Type 0
  UnlocksWith task None = IsOpen task ⊎ IsOver task
  UnlocksWith task (Some c) = CleansUp task c

  abbrev pub TailFacts : NodeMap M → ℕ → ℕ → Task M → Tail → Type 0
  TailFacts t root pin task (Upgrade path small) = IsOpen task
      × OnPath t root pin (key_bytes task) path × While t path.here (SmallWork small task)
      × Writing task
  TailFacts t root pin task (Write spot) = AtNode t task spot Entry
  TailFacts t root pin task (MakeLeaf spot) = AtNode t task spot Leaf
  TailFacts t root pin task (Link spot leaf) = AtNode t task spot Leaf × HasLeaf t task leaf
  TailFacts t root pin task (Unlock spot left) = IsHeld t spot × UnlocksWith task left
  TailFacts t root pin task (UpgradeAbove pair large) = Below t pin task pair large
      × Known t pin pair.above × LedTo t pair.above (key_bytes task) pair.here.slot
  TailFacts t root pin task (UpgradeBelow pair large) = Below t pin task pair large
      × (above : IsHeld t pair.above) × LeadsBelow above.node (key_bytes task) pair.here.slot
  TailFacts t root pin task (MakeLeafBelow pair large) =
      AtPair t task pair large × HasNewLeaf large
  TailFacts t root pin task (Grow pair leaf) =
      AtPair t task pair (is_for leaf) × HasOwnLeaf t task leaf
  TailFacts t root pin task (MakeMiddle pair leaf) =
      AtPair t task pair Split × HasLeaf t task leaf
  TailFacts t root pin task (Replace pair copy leaf) =
      (at : AtPair t task pair (is_for leaf)) × HasCopy t task at.held.here.node copy leaf
  TailFacts t root pin task (Insert pair middle leaf) =
      (at : AtPair t task pair Split) × HasLeaf t task leaf
      × HasMiddle t task at.held.here.node pair.here.slot middle leaf
  TailFacts t root pin task (tail.Detach pair) = AtPair t task pair Detach
  TailFacts t root pin task (Obsolete pair left) = EndsWith task left
      × IsHeld t pair.above × IsOut t pair.here × (pair.above.slot ≢ pair.here.slot)
  TailFacts t root pin task (UnlockBelow pair) = IsOver task
      × IsHeld t pair.above × IsHeld t pair.here × (pair.above.slot ≢ pair.here.slot)
