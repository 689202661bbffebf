-- What a Read reports, and what follows at a Check: where a way ends, and how far a range is.
use Rattle.std.specs.Prelude.{◌≡◌, ℕ, ◌+◌, ◌-◌, ◌^◌, ◌<◌, ◌≤◌, min, max, IsTrue, ◌↔◌, List, [], ◌∷◌, ◌++◌, length, Option, Some, None, IsSome, if◌then◌else◌, nat_lt, ◌⊎◌}
use Rattle.node_base.specs.Form.{Fits}
use Rattle.spec_node.specs.Key.{Begins, next_byte, low, high}
use Rattle.spec_map.specs.Map.{lookup}
use Rattle.spec_node.specs.TableNode.{TableNode, Child}
use Rattle.spec_node.specs.declared.child.Child.TheVariants.{Payload, Node as below}
use Rattle.spec_olc.specs.Calls.{Outline, bytes_of}
use Rattle.spec_olc.specs.Content.{IsStoredAt}
use Rattle.spec_olc.specs.Local.{seen_child, seen_payload}
use Rattle.spec_olc.specs.State.{CallState, Cleaning, State, VersionedNode, back, stopped}
use Rattle.spec_olc.specs.declared.types.Op.TheVariants.{Range}
use Rattle.spec_olc.specs.declared.types.Seen.{Seen}

-- the first child whose byte isn't below this one
abbrev pub first_from : {C : Type 0} → ℕ → List (ℕ × C) → Option C
first_from byte [] = None
first_from byte (e ∷ es) = if nat_lt e.0 byte then first_from byte es else Some e.1

-- from which byte on a range searches a node: its cursor's, or 0 if that is below all its keys
abbrev pub bound_at : ℕ → List ℕ → ℕ
bound_at cursor prefix =
    if nat_lt cursor (low prefix) then 0 else next_byte prefix (bytes_of cursor)

-- a range may give one more pair, with this key
abbrev pub MayGive : Outline → ℕ → ℕ → Type 0
MayGive (Range a b n) given key = (key < b) × (given < n)
MayGive _ given key = ⊥

-- a range has no more pairs to give
abbrev pub HasAll : Outline → ℕ → ℕ → Type 0
HasAll (Range a b n) reach given = (b ≤ reach) ⊎ (given ≡ n)
HasAll _ reach given = ⊥

-- a range has passed all keys below this one; the last key of all is in no range
abbrev pub IsPast : ℕ → ℕ → ℕ → Type 0
IsPast key cursor reach = (cursor ≡ min key (2 ^ 64 - 1)) × (reach ≡ cursor)

module _ {M : Type 0} where
  -- the child that a Read finds: of a point call under its key's byte, of a range from its bound on
  abbrev pub child_for : Outline → ℕ → TableNode M → Option (Child M)
  child_for (Range a b n) cursor node = first_from (bound_at cursor node.prefix) node.children
  child_for _ cursor node = lookup node.children (next_byte node.prefix (bytes_of cursor))

  -- what a Read reports of a child; unspecified of a payload if the call doesn't see payloads
  abbrev pub IsSeenOf : Type 0 → Option (Child M) → Option (Child M) → Type 0
  IsSeenOf Sees (Some (Payload v)) seen = Sees → seen ≡ Some (Payload v)
  IsSeenOf Sees child seen = seen ≡ child

  -- what a Read of a node whose word is the remembered one reports
  pub record IsReading (Sees : Type 0) (call : CallState M) (node : TableNode M)
      (s : Seen M) : Type 0 where
    pub child : IsSeenOf Sees (child_for call.outline call.cursor node) s.child
    pub count : s.count ≡ length node.children
    pub full : IsTrue s.full ↔ (Fits node.form (length node.children + 1) → ⊥)

  -- a node of which the call remembers a word
  pub record Remembered (s : State M) (call : CallState M) : Type 0 where
    pub slot : ℕ
    pub node : VersionedNode M
    pub word : ℕ
    pub here : lookup s.nodes slot ≡ Some node
    pub word_is : lookup call.remembered slot ≡ Some word

  -- A WAY ENDS where the last Read gave no node, or one that the call remembers and that is off it
  abbrev pub EndsAt : State M → CallState M → (TableNode M → Type 0) → Option (Child M) → Type 0
  EndsAt s call IsOff (Some (below slot)) =
      (b : Remembered s call) × (b.slot ≡ slot) × IsOff b.node.node
  EndsAt s call IsOff child = Unit {0}

  -- the way of the key ends; and that to a node to clean up, below one that is nearer to the root
  abbrev pub KeyEnds : State M → CallState M → Type 0
  KeyEnds s call =
      EndsAt s call (λ b. Begins b.prefix (bytes_of call.cursor) → ⊥) (seen_child call.seen)

  abbrev pub HasNothing : (s : State M) (call : CallState M) → TableNode M → Type 0
  HasNothing s call a = (c : Cleaning) × (call.cleaning ≡ Some c) × IsSome call.seen
      × (length a.prefix < c.depth)
      × EndsAt s call (λ b. Begins b.prefix (bytes_of call.cursor) → c.depth < length b.prefix)
      (seen_child call.seen)

  -- no key from `low` on and below `high` is present in this state
  abbrev pub NoneIsStored : State M → ℕ → ℕ → Type 0
  NoneIsStored s low high = (key : ℕ) (value : M) → low ≤ key → key < high → IsStoredAt s key value → ⊥

  -- the call goes on as this one, or as this one back at the root
  abbrev pub GoesOn : CallState M → CallState M → Type 0
  GoesOn call next = (next ≡ call) ⊎ (next ≡ back call)

  -- HOW FAR A RANGE IS after a Check: past the node, if the last Read gave no child; at a payload
  -- that it may not give; above a child, as before; at a child that it remembers, or past that
  abbrev pub ComesTo : (s : State M) (call : CallState M) → Remembered s call → Option (Child M)
      → ℕ → ℕ → Type 0
  ComesTo s call a None cursor reach = IsPast (high a.node.node.prefix) cursor reach
  ComesTo s call a (Some (Payload v)) cursor reach = (cursor ≡ call.cursor)
      × ((at_key : IsStoredAt s reach v) × (at_key.slot ≡ a.slot))
      × (MayGive call.outline call.given reach → ⊥)
  ComesTo s call a (Some (below slot)) cursor reach =
      ((cursor ≡ call.cursor) × (reach ≡ call.reach))
      ⊎ ((b : Remembered s call) × (b.slot ≡ slot)
      × (((cursor ≡ call.cursor) × (reach ≡ max cursor (low b.node.node.prefix)))
      ⊎ ((high b.node.node.prefix ≤ call.cursor)
      × ((byte : ℕ) × (lookup a.node.node.children byte ≡ Some (below slot))
      × IsPast (high (a.node.node.prefix ++ byte ∷ [])) cursor reach))))

  -- A RANGE SEARCHES ON: its cursor doesn't decrease, and its reach passes no key present now
  pub record MovesOn (s : State M) (call : CallState M) (a : Remembered s call) (next : CallState M)
      : Type 0 where
    pub cursor : ℕ
    pub reach : ℕ
    pub read : IsSome call.seen
    pub comes : ComesTo s call a (seen_child call.seen) cursor reach
    pub onward : call.cursor ≤ cursor
    pub order : cursor ≤ reach
    pub passed : NoneIsStored s call.reach reach
    pub next_is : GoesOn (record call { cursor = cursor; reach = reach }) next

  -- A RANGE GIVES A PAIR that is stored now, the first from its reach on, as its last Read gave it
  pub record Gives (s : State M) (call : CallState M) (a : Remembered s call) (next : CallState M)
      (key : ℕ) (value : M) : Type 0 where
    pub saw : seen_payload call.seen ≡ Some value
    pub from : call.reach ≤ key
    pub may : MayGive call.outline call.given key
    pub at_key : IsStoredAt s key value
    pub at_node : at_key.slot ≡ a.slot
    pub passed : NoneIsStored s call.reach key
    pub next_is : GoesOn
        (record call { cursor = key + 1; reach = key + 1; given = call.given + 1 }) next

  -- after a Check with outcome Going a point call is unchanged, or has nothing more to clean up
  abbrev pub LooksOn : Outline → (s : State M) (call : CallState M) → Remembered s call → CallState M
      → Type 0
  LooksOn (Range start end n) s call a next = MovesOn s call a next
  LooksOn _ s call a next =
      (next ≡ call) ⊎ ((next ≡ stopped call) × HasNothing s call a.node.node)
