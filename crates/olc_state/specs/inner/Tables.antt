-- THE TABLE OF NODES: what holds of it after each event, what a call may know of a node, and what an
-- event leaves to others.
use Rattle.std.specs.Prelude.{◌≡◌, ◌≢◌, ℕ, ◌≤◌, Bool, IsTrue, List, [], ◌∷◌, ◌++◌, length, Option, Some, None, ◌⊎◌, ◌↔◌}
use Rattle.node_base.specs.declared.base_node.NodeType.TheVariants.{N256}
use Rattle.spec_map.specs.Map.{Rises}
use Rattle.spec_node.specs.Key.{Begins, AreBytes, next_byte}
use Rattle.spec_node.specs.declared.child.Child.TheVariants.{Payload, Node as below_at}
use Rattle.spec_olc.specs.Lock.{IsFree, IsLocked, IsObsolete}
use Rattle.olc_state.specs.declared.stage.Path.{Path}
use Rattle.olc_state.specs.declared.stage.Spot.{Spot}
use Rattle.olc_state.specs.inner.World.{NodeLifetime, is_private, is_linked, is_detached, is_retired, PlacedNode, NodeMap, entry}

-- a call with this pin may still step on a node in this state
abbrev pub IsSafe : ℕ → NodeLifetime → Type 0
IsSafe pin is_private = ⊥
IsSafe pin is_linked = Unit {0}
IsSafe pin is_detached = Unit {0}
IsSafe pin (is_retired None) = Unit {0}
IsSafe pin (is_retired (Some stamp)) = pin ≤ stamp

-- the number is in the list
abbrev pub IsIn : ℕ → List ℕ → Type 0
IsIn n [] = ⊥
IsIn n (x ∷ xs) = (x ≡ n) ⊎ IsIn n xs

module _ {M : Type 0} where
  -- the byte of a key under which it goes on below a node
  abbrev pub byte_at : PlacedNode M → List ℕ → ℕ
  byte_at a k = next_byte a.node.prefix k

  -- the slot has a linked node
  pub record IsLinked (t : NodeMap M) (s : ℕ) (a : PlacedNode M) : Type 0 where
    pub here : t s ≡ Some a
    pub lifetime : a.lifetime ≡ is_linked

  -- the node under a byte of a linked inner node is linked, and its prefix goes on with that byte
  pub record IsBelow (t : NodeMap M) (a : PlacedNode M) (byte c : ℕ) : Type 0 where
    pub node : PlacedNode M
    pub linked : IsLinked t c node
    pub begins : Begins (a.node.prefix ++ byte ∷ []) node.node.prefix

  -- the way from a linked node to another whose prefix begins with its own
  pub record LeadsOn (t : NodeMap M) (a : PlacedNode M) (k : List ℕ) : Type 0 where
    pub slot : ℕ
    pub node : PlacedNode M
    pub entry_is : entry a (byte_at a k) ≡ Some (below_at slot)
    pub linked : IsLinked t slot node
    pub begins : Begins node.node.prefix k

  -- THE PLACE FACTS
  pub record IsPlaced (t : NodeMap M) (root : ℕ) : Type 0 where
    pub top : PlacedNode M
    pub top_linked : IsLinked t root top
    pub top_prefix : top.node.prefix ≡ []
    pub top_form : top.node.form ≡ N256
    pub short : (s : ℕ) (a : PlacedNode M) → IsLinked t s a → length a.node.prefix ≤ 7
    pub bytes : (s : ℕ) (a : PlacedNode M) → IsLinked t s a → AreBytes a.node.prefix
    pub ordered : (s : ℕ) (a : PlacedNode M) → IsLinked t s a → Rises 0 256 a.node.children
    pub below : (s : ℕ) (a : PlacedNode M) → IsLinked t s a
        → (x c : ℕ) → entry a x ≡ Some (below_at c) → IsBelow t a x c
    pub leaf : (s : ℕ) (a : PlacedNode M) → IsLinked t s a
        → (x : ℕ) (v : M) → entry a x ≡ Some (Payload v) → length a.node.prefix ≡ 7
    pub leads : (s r : ℕ) (a b : PlacedNode M) → IsLinked t s a → IsLinked t r b
        → Begins a.node.prefix b.node.prefix → (s ≡ r) ⊎ LeadsOn t a b.node.prefix
    pub free : (s : ℕ) (a : PlacedNode M) → t s ≡ Some a → IsFree a.word
        → (a.lifetime ≡ is_linked) ⊎ (a.lifetime ≡ is_private)
    pub locked : (s : ℕ) (a : PlacedNode M) → t s ≡ Some a → IsObsolete a.word → IsLocked a.word
    pub obsolete : (s : ℕ) (a : PlacedNode M) → t s ≡ Some a
        → IsObsolete a.word ↔ ((stamp : Option ℕ) × (a.lifetime ≡ is_retired stamp))

  -- the table has the key with this value: some linked leaf has it
  pub record Keeps (t : NodeMap M) (k : List ℕ) (v : M) : Type 0 where
    pub slot : ℕ
    pub leaf : PlacedNode M
    pub linked : IsLinked t slot leaf
    pub full : length leaf.node.prefix ≡ 7
    pub begins : Begins leaf.node.prefix k
    pub payload : entry leaf (byte_at leaf k) ≡ Some (Payload v)

  -- the node that a call remembers is there, safe from reclaiming, and its word hasn't fallen
  pub record Known (t : NodeMap M) (pin : ℕ) (spot : Spot) : Type 0 where
    pub node : PlacedNode M
    pub here : t spot.slot ≡ Some node
    pub safe : IsSafe pin node.lifetime
    pub free : IsFree spot.word
    pub word : spot.word ≤ node.word

  -- a slot has a node that is safe from reclaiming
  pub record IsThere (t : NodeMap M) (pin slot : ℕ) : Type 0 where
    pub node : PlacedNode M
    pub here : t slot ≡ Some node
    pub safe : IsSafe pin node.lifetime

  -- the node in this slot is on the key's way
  abbrev pub OnWay : NodeMap M → ℕ → List ℕ → Type 0
  OnWay t slot k = (a : PlacedNode M) → t slot ≡ Some a → Begins a.node.prefix k

  -- as long as the word is the remembered one, this holds of the node
  abbrev pub While : NodeMap M → Spot → (PlacedNode M → Type 0) → Type 0
  While t spot Q = (a : PlacedNode M) → t spot.slot ≡ Some a → a.word ≡ spot.word → Q a

  -- it leads to this slot
  abbrev pub LedTo : NodeMap M → Spot → List ℕ → ℕ → Type 0
  LedTo t spot k slot = While t spot (λ a. entry a (byte_at a k) ≡ Some (below_at slot))

  -- the parent, if there is one, is known, and led to the node in this slot
  abbrev pub CameFrom : NodeMap M → ℕ → ℕ → List ℕ → Option Spot → ℕ → Type 0
  CameFrom t root pin k None slot = slot ≡ root
  CameFrom t root pin k (Some p) slot = Known t pin p × OnWay t p.slot k × LedTo t p k slot

  pub record OnPath (t : NodeMap M) (root pin : ℕ) (k : List ℕ) (path : Path) : Type 0 where
    pub above : CameFrom t root pin k path.above path.here.slot
    pub here : Known t pin path.here
    pub way : OnWay t path.here.slot k
    pub apart : (p : Spot) → path.above ≡ Some p → p.slot ≢ path.here.slot

  -- a test of the prefix of the node in this slot
  abbrev pub TestOf : NodeMap M → ℕ → List ℕ → Bool → Type 0
  TestOf t slot k fits = (a : PlacedNode M) → t slot ≡ Some a → IsTrue fits ↔ Begins a.node.prefix k

  -- what an event leaves of a node that others may remember
  pub record Kept (pin : ℕ) (a b : PlacedNode M) : Type 0 where
    pub prefix : b.node.prefix ≡ a.node.prefix
    pub word : a.word ≤ b.word
    pub same : IsFree b.word → b.word ≡ a.word → b.node ≡ a.node
    pub safe : IsSafe pin b.lifetime

  -- it is still there, and changed only if the call of the event held it or it was free
  pub record Remains (t' : NodeMap M) (Mine : ℕ → Type 0) (pin s : ℕ) (a : PlacedNode M) : Type 0 where
    pub node : PlacedNode M
    pub here : t' s ≡ Some node
    pub kept : Kept pin a node
    pub changed : (node ≡ a) ⊎ (Mine s ⊎ IsFree a.word)

  -- what the calls with this pin may rely on, whichever event another call made
  abbrev pub Guarantees : NodeMap M → NodeMap M → (ℕ → Type 0) → ℕ → Type 0
  Guarantees t t' Mine pin =
      (s : ℕ) (a : PlacedNode M) → t s ≡ Some a → IsSafe pin a.lifetime → Remains t' Mine pin s a

  -- a private node of another call is as it was
  abbrev pub PrivateStays : NodeMap M → NodeMap M → (ℕ → Type 0) → Type 0
  PrivateStays t t' Mine = (s : ℕ) (a : PlacedNode M) → t s ≡ Some a → a.lifetime ≡ is_private
      → (Mine s → ⊥) → t' s ≡ Some a

  -- a node that some call has to hold: private, or locked and not obsolete
  pub record NeedsHolder (t : NodeMap M) (s : ℕ) : Type 0 where
    pub node : PlacedNode M
    pub here : t s ≡ Some node
    pub why : (node.lifetime ≡ is_private) ⊎ (IsLocked node.word × (IsObsolete node.word → ⊥))
