-- Calls on an ordered map, and what they return.
use Rattle.std.specs.Prelude.{ℕ, Bool, List, Option, Result}

-- Where a pair may be looked for: at an end of the map, or next to a key.
pub data Near (K : Type 0) : Type 0 where
  first : Near K
  last : Near K
  -- the greatest key that is at most this one, and the greatest below it
  floor : K → Near K
  below : K → Near K
  -- the least key that is at least this one, and the least above it
  ceiling : K → Near K
  above : K → Near K

-- A call with keys of type K and values of type V. The two compute calls have a closure besides.
pub data Call (K V : Type 0) : Type 0 where
  get : K → Call K V
  insert : K → V → Call K V
  remove : K → Call K V
  -- the expected value, and what replaces it: a value, or nothing, which removes the key
  compare_exchange : K → V → Option V → Call K V
  compute_if_present : K → Call K V
  compute_or_insert : K → Call K V
  is_empty : Call K V
  keys : Call K V
  -- from a key on, below a key, at most so many pairs
  range : K → K → ℕ → Call K V
  -- one pair, by where it is
  nearest : Near K → Call K V
  -- how many pairs there are
  count : Call K V

-- What the closure of a call was called with and what it returned, if it was called. It is passed what is stored, of
-- type P, and returns such a value, or nothing.
abbrev pub ClosureCall : Type 0 → Type 0
ClosureCall P = Option (Option P × Option P)

-- A reply with keys of type K and values of type V, over what is stored, of type P.
pub data Reply (K V P : Type 0) : Type 0 where
  -- the key's previous value
  old_value : Option V → Reply K V P
  -- Ok: what is stored now; Err: the current value, which isn't the expected one
  exchanged : Result (Option V) (Option V) → Reply K V P
  -- the previous value and what the closure returned; none if it wasn't called
  computed : Option (P × Option P) → Reply K V P
  tested : Bool → Reply K V P
  listed : List K → Reply K V P
  ranged : List (ℕ × P) → Reply K V P
  found : Option (K × V) → Reply K V P
  counted : ℕ → Reply K V P

-- the outcome: a reply, or a refusal for lack of memory
pub data Answer (K V P : Type 0) : Type 0 where
  replied : Reply K V P → Answer K V P
  refused : Answer K V P

-- an operation: a call, what its closure was passed and returned, and the outcome
pub record Operation (K V P : Type 0) : Type 0 where
  pub call : Call K V
  pub asked : ClosureCall P
  pub answer : Answer K V P
