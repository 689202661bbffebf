-- What a seat knows after each step of the sharded lock.
use Rattle.std.specs.Prelude.{◌≡◌, ◌≢◌, ℕ, ◌*◌, Bool, IsFalse, List, [], ◌∷◌, ◌++◌, reverse, Option, Some}
use Rattle.atomic_table.specs.Seated.{TableId}
use Rattle.atomic_table.specs.Table.{Step, rest}
use Rattle.share_parts.specs.Parts.{kept, Ascends, AreWithin}
use Rattle.share_rule.specs.History.{Entry, entries_by, entries_of, IsLegalHistory, StartsWith}
use Rattle.share_rule.specs.Known.{Known}
use Rattle.share_rule.specs.inner.Hold.{StepsBy}
use Rattle.share_rule.specs.inner.Rule.{HasSeen}
use Rattle.share_rule.specs.inner.Steps.{seen_after}
use Rattle.share_shards.specs.Held.{is_in, keys_at, keys_of, numbers, slots_of, values_of, AreDistinct, Contain}
use Rattle.share_shards.specs.inner.SeatView.{ShardSeat, ShardView, Blank, Caller, Paired}
use Rattle.spec_map.specs.Call.{Operation}
use Rattle.spec_map.specs.Map.{Pairs, lookup}

module _ {T S : Type 0} where
  abbrev pub caller_of : ShardView T S → ℕ
  caller_of Blank = 0
  caller_of (Caller c seen pairs held) = c
  caller_of (Paired c d a b) = c

  abbrev pub seen_of : ShardView T S → List (Entry T)
  seen_of Blank = []
  seen_of (Caller c seen pairs held) = seen
  seen_of (Paired c d a b) = a

  abbrev pub pairs_of : ShardView T S → Pairs T
  pairs_of Blank = []
  pairs_of (Caller c seen pairs held) = pairs
  pairs_of (Paired c d a b) = []

  abbrev pub held_of : ShardView T S → List (ℕ × S)
  held_of Blank = []
  held_of (Caller c seen pairs held) = held
  held_of (Paired c d a b) = []

  abbrev pub own_of : ShardView T S → List (Entry T)
  own_of v = entries_of (caller_of v) (seen_of v)

  -- the seat of a caller that holds these shards, with these values in their slots
  abbrev pub seat_with : ℕ → List (Entry T) → Pairs T → List (ℕ × S) → ShardSeat T S
  seat_with c seen pairs held = (Caller c seen pairs held, slots_of held)

  -- between holds
  abbrev pub IsIdle : ShardSeat T S → Type 0
  IsIdle m = m ≡ (Caller (caller_of m.0) (seen_of m.0) [] [], [])

  abbrev pub known_of : TableId → ShardSeat T S → Known T
  known_of table m = record { table = table; caller = caller_of m.0; seen = seen_of m.0 }

  -- nothing more is seen
  pub record SeesNoMore (m n : ShardSeat T S) : Type 0 where
    pub idle : IsIdle n
    pub caller : caller_of n.0 ≡ caller_of m.0
    pub seen : seen_of n.0 ≡ seen_of m.0

  -- these were made, one after another and with no other between them: what is seen then is legal, and ends with them
  pub record MadeAll (same : T → T → Bool) (m : ShardSeat T S) (operations : List (Operation ℕ T T)) (n : ShardSeat T S) : Type 0 where
    pub between : List (Entry T)
    pub idle : IsIdle n
    pub caller : caller_of n.0 ≡ caller_of m.0
    pub legal : IsLegalHistory same (seen_of n.0)
    pub seen : seen_of n.0 ≡ (seen_of m.0 ++ between) ++ entries_by (caller_of m.0) operations
    pub own : own_of n.0 ≡ own_of m.0 ++ entries_by (caller_of m.0) operations

  -- what is known after a hold
  abbrev pub HeldBy : (T → T → Bool) → List (Operation ℕ T T) → ShardSeat T S → ShardSeat T S → Type 0
  HeldBy same [] m n = SeesNoMore m n
  HeldBy same (x ∷ xs) m n = MadeAll same m (x ∷ xs) n

  -- more may be seen, but no more entries of the caller
  pub record SeesMore (same : T → T → Bool) (m n : ShardSeat T S) : Type 0 where
    pub idle : IsIdle n
    pub caller : caller_of n.0 ≡ caller_of m.0
    pub legal : IsLegalHistory same (seen_of n.0)
    pub seen : StartsWith (seen_of n.0) (seen_of m.0)
    pub own : own_of n.0 ≡ own_of m.0

-- HOLDING shards
module _ {T S : Type 0} (content : S → Pairs T → Type 0) (shard : ℕ → ℕ) where
  -- the seat has in its slots what it knows of the shards that it holds, and what they contain are the map's pairs in them
  pub record Holds (m : ShardSeat T S) : Type 0 where
    pub is : m ≡ seat_with (caller_of m.0) (seen_of m.0) (pairs_of m.0) (held_of m.0)
    pub distinct : AreDistinct (numbers (held_of m.0))
    pub contain : Contain content shard (held_of m.0) (pairs_of m.0)

  -- these shards were taken too, in this order
  pub record Took (shards : List ℕ) (m n : ShardSeat T S) : Type 0 where
    pub holds : Holds n
    pub caller : caller_of n.0 ≡ caller_of m.0
    pub seen : seen_of n.0 ≡ seen_of m.0
    pub taken : numbers (held_of n.0) ≡ reverse shards ++ numbers (held_of m.0)

  -- the shard i was taken too, with the value in its slot
  pub record Won (i : ℕ) (m n : ShardSeat T S) : Type 0 where
    pub value : S
    pub pairs : Pairs T
    pub is : n ≡ (Caller (caller_of m.0) (seen_of m.0) pairs ((i, value) ∷ held_of m.0), (i, Some value) ∷ m.1)
    pub new : IsFalse (is_in (numbers (held_of m.0)) i)
    pub ordered : Ascends pairs
    pub within : kept (keys_of shard (i ∷ numbers (held_of m.0))) pairs ≡ pairs
    pub before : pairs_of m.0 ≡ kept (keys_of shard (numbers (held_of m.0))) pairs
    pub contains : content value (kept (keys_at shard i) pairs)

  -- a try that found this word
  pub record Tries (st : Step (Option S)) (m : ShardSeat T S) (found : ℕ) (n : ShardSeat T S) : Type 0 where
    pub won : (i : ℕ) → st.word ≡ 8 * i → found ≡ 0 → Won i m n
    pub lost : found ≢ 0 → n ≡ m

-- the operations of a hold of one shard, by what it found there
abbrev pub operations_at : {T S : Type 0} → (S → List (Operation ℕ T T)) → List (ℕ × S) → List (Operation ℕ T T)
operations_at made [] = []
operations_at made (h ∷ held) = made h.1

-- APPENDING the operations of a hold to the history
module _ {T S : Type 0} (same : T → T → Bool) (content : S → Pairs T → Type 0) (shard : ℕ → ℕ) (operations : List (Operation ℕ T T)) where
  -- these operations may be appended: the shards that the seat holds have these values now, which contain what the
  -- operations make of the pairs, and the keys of these shards determine the operations
  pub record MayAppend (m : ShardSeat T S) (held values : List (ℕ × S)) : Type 0 where
    pub end : Pairs T
    pub is : m ≡ (Caller (caller_of m.0) (seen_of m.0) (pairs_of m.0) held, slots_of values)
    pub alike : numbers values ≡ numbers held
    pub distinct : AreDistinct (numbers held)
    pub within : AreWithin (keys_of shard (numbers held)) operations
    pub goes : StepsBy same operations (pairs_of m.0) end
    pub parts : (i : ℕ) (value : S) → lookup values i ≡ Some value → content value (kept (keys_at shard i) end)

  -- they were, at a moment at which the history was this one
  pub record Appended (m : ShardSeat T S) (values : List (ℕ × S)) (n : ShardSeat T S) : Type 0 where
    pub history : List (Entry T)
    pub end : Pairs T
    pub is : n ≡ (Caller (caller_of m.0) (seen_after (seen_of m.0) history (entries_by (caller_of m.0) operations)) end values, m.1)
    pub contain : Contain content shard values end
    pub legal : IsLegalHistory same (history ++ entries_by (caller_of m.0) operations)
    pub fit : HasSeen history (caller_of m.0) (seen_of m.0)

  abbrev pub Appends : Step (Option S) → ShardSeat T S → ℕ → ShardSeat T S → Type 0
  Appends st m word n = Appended m (values_of m.1) n

-- RELEASING the shard that was taken last
module _ {T S : Type 0} (shard : ℕ → ℕ) where
  abbrev pub without_last : ShardView T S → ShardView T S
  without_last (Caller c seen pairs (h ∷ held)) = Caller c seen (kept (keys_of shard (numbers held)) pairs) held
  without_last v = v

  abbrev pub Releases : Step (Option S) → ShardSeat T S → ℕ → ShardSeat T S → Type 0
  Releases st m word n = n ≡ (without_last m.0, rest m.1)

-- COMING, GOING AND MEETING
module _ {T S : Type 0} where
  -- a new seat has a caller of its own, which has seen nothing
  abbrev pub Enters : Step (Option S) → ShardSeat T S → ℕ → ShardSeat T S → Type 0
  Enters st m word n = (c : ℕ) × (n ≡ (Caller c [] [] [], m.1))

  -- two views in one, and each of them again
  abbrev pub both_of : ShardView T S → ShardView T S → ShardView T S
  both_of (Caller c a p h) (Caller d b q k) = Paired c d a b
  both_of v w = v

  abbrev pub first_of : ShardView T S → ShardView T S
  first_of (Paired c d a b) = Caller c a [] []
  first_of v = v

  abbrev pub second_of : ShardView T S → ShardView T S
  second_of (Paired c d a b) = Caller d b [] []
  second_of v = Blank

  -- both callers of a seat, which are two, have seen the whole history
  pub record Met (same : T → T → Bool) (c d : ℕ) (a b : List (Entry T)) (n : ShardSeat T S) : Type 0 where
    pub history : List (Entry T)
    pub is : n ≡ (Paired c d history history, [])
    pub legal : IsLegalHistory same history
    pub differ : c ≢ d
    pub first : HasSeen history c a
    pub second : HasSeen history d b

  abbrev pub Meets : (T → T → Bool) → Step (Option S) → ShardSeat T S → ℕ → ShardSeat T S → Type 0
  Meets same st (Paired c d a b, []) word n = Met same c d a b n
  Meets same st m word n = Unit {0}
