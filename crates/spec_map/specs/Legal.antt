-- What a call on a map returns, what it leaves of the map, and the legal runs of calls.
use Rattle.std.specs.Prelude.{◌≡◌, ℕ, ◌<◌, ◌^◌, Bool, List, [], ◌∷◌, Option, Some, None, Result, Ok, Err, if◌then◌else◌, ◌==◌, length, map, take}
use Rattle.std.specs.List.{AllByRecursion}
use Rattle.spec_map.specs.Map.{Pairs, lookup, put, without, with_answer, between}
use Rattle.spec_map.specs.Call.{Call, get, insert, remove, compare_exchange, compute_if_present, compute_or_insert, is_empty, keys, range, nearest, count}
use Rattle.spec_map.specs.Call.{Reply, old_value, exchanged, computed, tested, listed, ranged, found, counted}
use Rattle.spec_map.specs.Call.{ClosureCall, Answer, replied, refused, Operation}
use Rattle.spec_map.specs.Near.{pair_near}
use Rattle.spec_map.specs.Refusal.{MayRunOut, MayRefuse}

module _ {P : Type 0} where
  -- the closure was called with the key's current value if the key is present, and not called otherwise
  abbrev pub CallsIfPresent : Option P → ClosureCall P → Type 0
  CallsIfPresent None asked = asked ≡ None
  CallsIfPresent (Some old) asked = (new : Option P) × (asked ≡ Some (Some old, new))

  -- the closure was called with the key's current value, or with nothing if the key is absent, and returned a value
  abbrev pub CallsAlways : Option P → ClosureCall P → Type 0
  CallsAlways old asked = (new : P) × (asked ≡ Some (old, Some new))

  -- the closure of a call was called as it has to be
  abbrev pub IsClosureCalled : Pairs P → Call ℕ P → ClosureCall P → Type 0
  IsClosureCalled m (compute_if_present k) asked = CallsIfPresent (lookup m k) asked
  IsClosureCalled m (compute_or_insert k) asked = CallsAlways (lookup m k) asked
  IsClosureCalled m call asked = asked ≡ None

  -- the reply to compute_if_present
  abbrev pub computed_by : ClosureCall P → Option (P × Option P)
  computed_by None = None
  computed_by (Some (None, new)) = None
  computed_by (Some (Some old, new)) = Some (old, new)

  -- the map with what a closure returned, if it was called
  abbrev pub after_asking : Pairs P → ℕ → ClosureCall P → Pairs P
  after_asking m k None = m
  after_asking m k (Some (old, new)) = with_answer m k new

  -- the map after a compare_exchange that returned this
  abbrev pub after_exchange : Pairs P → ℕ → Result (Option P) (Option P) → Pairs P
  after_exchange m k (Ok new) = with_answer m k new
  after_exchange m k (Err current) = m

-- Stored values are compared by the test `same`.
module _ {P : Type 0} (same : P → P → Bool) where
  -- the reply to compare_exchange, by the key's current value
  abbrev pub exchange : Option P → P → Option P → Result (Option P) (Option P)
  exchange None old new = Err None
  exchange (Some current) old new = if same current old then Ok new else Err (Some current)

  -- THE CALLS, a row each: the reply to a call whose closure was called so, and the map after it
  abbrev pub apply : Pairs P → Call ℕ P → ClosureCall P → Reply ℕ P P × Pairs P
  apply m (get k) asked = (old_value (lookup m k), m)
  apply m (insert k v) asked = (old_value (lookup m k), put m k v)
  apply m (remove k) asked = (old_value (lookup m k), without m k)
  apply m (compare_exchange k old new) asked =
      let result = exchange (lookup m k) old new in (exchanged result, after_exchange m k result)
  apply m (compute_if_present k) asked = (computed (computed_by asked), after_asking m k asked)
  apply m (compute_or_insert k) asked = (old_value (lookup m k), after_asking m k asked)
  apply m is_empty asked = (tested (length m == 0), m)
  apply m keys asked = (listed (map (λ e. e.0) m), m)
  apply m (range a b n) asked = (ranged (take n (between m a b)), m)
  apply m (nearest near) asked = (found (pair_near m near), m)
  apply m count asked = (counted (length m), m)

  abbrev pub reply_of : Pairs P → Call ℕ P → ClosureCall P → Reply ℕ P P
  reply_of m call asked = (apply m call asked).0

  abbrev pub after : Pairs P → Call ℕ P → ClosureCall P → Pairs P
  after m call asked = (apply m call asked).1

  -- the map may give this answer
  abbrev pub MayAnswer : MayRunOut → Pairs P → Call ℕ P → ClosureCall P → Answer ℕ P P → Type 0
  MayAnswer r m call asked (replied reply) = IsClosureCalled m call asked × (reply ≡ reply_of m call asked)
  MayAnswer r m call asked refused = (asked ≡ None) × MayRefuse r m call

  -- the map after an answer: a refusal changes nothing
  abbrev pub after_answer : Pairs P → Call ℕ P → ClosureCall P → Answer ℕ P P → Pairs P
  after_answer m call asked (replied reply) = after m call asked
  after_answer m call asked refused = m

  -- an operation that the map allows, and the map after it
  abbrev pub Allows : MayRunOut → Pairs P → Operation ℕ P P → Type 0
  Allows r m operation = MayAnswer r m operation.call operation.asked operation.answer

  abbrev pub after_operation : Pairs P → Operation ℕ P P → Pairs P
  after_operation m operation = after_answer m operation.call operation.asked operation.answer

  -- A LEGAL RUN from the map m to the map n: each operation is allowed by the map that those before it leave.
  abbrev pub IsLegal : MayRunOut → Pairs P → List (Operation ℕ P P) → Pairs P → Type 0
  IsLegal r m [] n = n ≡ m
  IsLegal r m (operation ∷ operations) n = Allows r m operation × IsLegal r (after_operation m operation) operations n

-- the keys that a call may enter have 64 bits
abbrev pub KeyFitsU64 : {P : Type 0} → Call ℕ P → Type 0
KeyFitsU64 (insert k v) = k < 2 ^ 64
KeyFitsU64 (compare_exchange k old new) = k < 2 ^ 64
KeyFitsU64 (compute_if_present k) = k < 2 ^ 64
KeyFitsU64 (compute_or_insert k) = k < 2 ^ 64
KeyFitsU64 call = Unit {0}

abbrev pub KeysFitU64 : {P : Type 0} → List (Operation ℕ P P) → Type 0
KeysFitU64 operations = AllByRecursion (λ operation. KeyFitsU64 operation.call) operations

-- the closure, if it was called, returned the result of this function for its argument
abbrev pub AnswersBy : (Option ℕ → Option ℕ) → ClosureCall ℕ → Type 0
AnswersBy f None = Unit {0}
AnswersBy f (Some (current, answer)) = answer ≡ f current
