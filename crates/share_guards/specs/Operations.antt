-- THE OPERATIONS that the calls enter in a history, by what they return.
use Rattle.std.specs.Prelude.{◌≡◌, ℕ, Option, Some, None}
use Rattle.spec_map.specs.Call.{Call, ClosureCall, Operation, Reply, compute_if_present, compute_or_insert, computed, old_value, replied}

module _ {T : Type 0} where
  -- a call without a closure, and its reply
  abbrev pub returned : Call ℕ T → Reply ℕ T T → Operation ℕ T T
  returned call reply = record { call = call; asked = None; answer = replied reply }

  -- what the closure of compute_if_present was called with and returned, by what the call returns
  abbrev pub asked_by : Option (T × Option T) → ClosureCall T
  asked_by None = None
  asked_by (Some both) = Some (Some both.0, both.1)

  abbrev pub computed_with : ℕ → Option (T × Option T) → Operation ℕ T T
  computed_with key both =
      record { call = compute_if_present key; asked = asked_by both; answer = replied (computed both) }

  -- compute_or_insert returned `old`, and its closure returned `new`
  abbrev pub inserted_with : ℕ → Option T → T → Operation ℕ T T
  inserted_with key old new =
      record { call = compute_or_insert key; asked = Some (old, Some new); answer = replied (old_value old) }

-- The last call of a closure, which left it as `last`: it was called with what means `old`, and returned what means
-- `new`. `step` are its calls, `sent` and `back` what an argument and a result mean.
module _ {F A B X Y : Type 0} (step : F → A → B → F → Type 0) (last : F)
    (sent : A → X) (back : B → Y) where
  pub record WasLastCalled (old : X) (new : Y) : Type 0 where
    pub before : F
    pub argument : A
    pub answer : B
    pub called : step before argument answer last
    pub argument_is : sent argument ≡ old
    pub answer_is : back answer ≡ new
