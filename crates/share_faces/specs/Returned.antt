-- WHAT A CALL RETURNS, and the operation with which the history ends that its guard has then seen. Keys and values are
-- written as numbers, and values are read back from them.
use Rattle.std.specs.Prelude.{◌≡◌, ℕ, Option, Result, Ok, Err, IfSome}
use Rattle.share_backend.specs.Owners.{never_same}
use Rattle.std.specs.Option.{option_map}
use Rattle.share_guards.specs.Many.{popping_owned}
use Rattle.share_guards.specs.Operations.{WasLastCalled, computed_with, inserted_with, returned}
use Rattle.share_rule.specs.Known.{Known, MadeCall, MadeCalls}
use Rattle.share_works.specs.Ends.{popping}
use Rattle.spec_map.specs.Call.{Call, Near, compare_exchange, exchanged, found, nearest, old_value}
use Rattle.spec_olc.specs.Meaning.{in_some}
use Rattle.spec_olc.specs.Runs.{same_number}

-- A CALL OF A MAP OF NUMBERS, by a guard that knew k
module _ {V : Type 0} (of_number : ℕ → V) (k : Known ℕ) where
  -- the call returned the key's previous value
  abbrev pub ReturnsOld : Call ℕ ℕ → Option V → Known ℕ → Type 0
  ReturnsOld call before n =
      (number : Option ℕ) × (before ≡ in_some of_number number) × MadeCall same_number k (returned call (old_value number)) n

  -- compare_exchange returned the new value itself, or the current one, which isn't the expected one
  abbrev pub ReturnsExchanged : (V → ℕ) → ℕ → ℕ → Option V → Result (Option V) (Option V) → Known ℕ → Type 0
  ReturnsExchanged number key old new (Ok stored) n =
      (stored ≡ new)
      × MadeCall same_number k (returned (compare_exchange key old (in_some number new)) (exchanged (Ok (in_some number new)))) n
  ReturnsExchanged number key old new (Err current) n =
      (found : Option ℕ) × (current ≡ in_some of_number found)
      × MadeCall same_number k (returned (compare_exchange key old (in_some number new)) (exchanged (Err found))) n

  -- compute_or_insert returned the previous value. `step` are the calls of its closure, of which the last one, from
  -- the previous value's number to the new one, left it as `last`
  abbrev pub ReturnsInserted : {F : Type 0} → (F → Option ℕ → ℕ → F → Type 0) → F → ℕ → Option V → Known ℕ → Type 0
  ReturnsInserted {F} step last key before n =
      (old : Option ℕ) × (new : ℕ) × (before ≡ in_some of_number old) × MadeCall same_number k (inserted_with key old new) n
      × ((state : F) × step state old new last)

-- THE ENDS AND NEIGHBOURS of a map of numbers, by a guard that knew k
module _ {K V : Type 0} (key_of : ℕ → K) (value_of : ℕ → V) (k : Known ℕ) where
  -- the call returned the pair there
  abbrev pub ReturnsPair : Near ℕ → Option (K × V) → Known ℕ → Type 0
  ReturnsPair near pair n =
      (numbers : Option (ℕ × ℕ)) × (pair ≡ in_some (λ (both : ℕ × ℕ). (key_of both.0, value_of both.1)) numbers)
      × MadeCall same_number k (returned (nearest near) (found numbers)) n

  -- the call removed the pair there, and returned it
  abbrev pub ReturnsPopped : Near ℕ → Option (K × V) → Known ℕ → Type 0
  ReturnsPopped near pair n =
      (numbers : Option (ℕ × ℕ)) × (pair ≡ in_some (λ (both : ℕ × ℕ). (key_of both.0, value_of both.1)) numbers)
      × MadeCalls same_number k (popping near numbers) n

-- THE ENDS AND NEIGHBOURS of a map of owners, by a guard that knew k
module _ {K P V : Type 0} (key_of : ℕ → K) (owned : P → V) (k : Known V) where
  -- the pair is that of this key and an owner of this value
  abbrev pub IsOwnerPair : Option (K × P) → Option (ℕ × V) → Type 0
  IsOwnerPair pair both =
      option_map {U = K × V} (λ (one : K × P). (one.0, owned one.1)) pair ≡ option_map {U = K × V} (λ (one : ℕ × V). (key_of one.0, one.1)) both

  -- the call returned the pair there
  abbrev pub ReturnsOwner : Near ℕ → Option (K × P) → Known V → Type 0
  ReturnsOwner near pair n =
      (both : Option (ℕ × V)) × IsOwnerPair pair both × MadeCall never_same k (returned (nearest near) (found both)) n

  -- the call removed the pair there, and returned it
  abbrev pub ReturnsPoppedOwner : Near ℕ → Option (K × P) → Known V → Type 0
  ReturnsPoppedOwner near pair n =
      (both : Option (ℕ × V)) × IsOwnerPair pair both × MadeCalls never_same k (popping_owned near both) n

-- COMPUTE_IF_PRESENT OF A MAP OF OWNERS returned the previous owner. `step` are the calls of its closure, of which the
-- last one, with an owner of the previous value, left it as `last`
abbrev pub ReturnsComputed : {P V F : Type 0} → (P → V) → (F → P → Option P → F → Type 0) → F → Known V → ℕ → Option P → Known V → Type 0
ReturnsComputed {P} {V} owned step last k key before n =
    (both : Option (V × Option V)) × (in_some owned before ≡ in_some (λ (pair : V × Option V). pair.0) both)
    × MadeCall never_same k (computed_with key both) n
    × IfSome both (λ pair. WasLastCalled step last owned (in_some owned) pair.0 pair.1)
