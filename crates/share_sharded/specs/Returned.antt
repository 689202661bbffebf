-- WHAT A CALL RETURNS, and the operations with which the history ends that its guard has then seen. Keys and values are
-- written as numbers, and values are read back from them.
use Rattle.std.specs.Option.{option_map}
use Rattle.std.specs.Prelude.{◌≡◌, ℕ, Option, Result, Ok, Err}
use Rattle.share_calls.specs.Computed.{computed_from}
use Rattle.share_rule.specs.Known.{Known, MadeCall, MadeCalls}
use Rattle.share_works.specs.Ends.{popping}
use Rattle.share_works.specs.Made.{returned}
use Rattle.spec_map.specs.Call.{Call, Near, compare_exchange, exchanged, found, nearest, old_value}
use Rattle.spec_olc.specs.Runs.{same_number}

-- A CALL, by a guard that knew k
module _ {V : Type 0} (of_number : ℕ → V) (k : Known ℕ) where
  -- the call returned the key's previous value
  abbrev pub ReturnsOld : Call ℕ ℕ → Option V → Known ℕ → Type 0
  ReturnsOld call before n =
      (number : Option ℕ) × (before ≡ option_map of_number number) × MadeCall same_number k (returned call (old_value number)) n

  -- the same, where the new number was put together from the previous one
  abbrev pub ReturnsComputed : ℕ → (Option ℕ → ℕ) → Option V → Known ℕ → Type 0
  ReturnsComputed key new before n =
      (number : Option ℕ) × (before ≡ option_map of_number number) × MadeCall same_number k (computed_from key number (new number)) n

  -- compare_exchange returned the new value itself, or the current one, which isn't the expected one
  abbrev pub ReturnsExchanged : (V → ℕ) → ℕ → ℕ → Option V → Result (Option V) (Option V) → Known ℕ → Type 0
  ReturnsExchanged number key old new (Ok stored) n =
      (stored ≡ new)
      × MadeCall same_number k (returned (compare_exchange key old (option_map number new)) (exchanged (Ok (option_map number new)))) n
  ReturnsExchanged number key old new (Err current) n =
      (found : Option ℕ) × (current ≡ option_map of_number found)
      × MadeCall same_number k (returned (compare_exchange key old (option_map number new)) (exchanged (Err found))) n

-- THE ENDS AND NEIGHBOURS, by a guard that knew k
module _ {K V : Type 0} (key_of : ℕ → K) (value_of : ℕ → V) (k : Known ℕ) where
  -- the call returned the pair there
  abbrev pub ReturnsPair : Near ℕ → Option (K × V) → Known ℕ → Type 0
  ReturnsPair near pair n =
      (numbers : Option (ℕ × ℕ)) × (pair ≡ option_map (λ (both : ℕ × ℕ). (key_of both.0, value_of both.1)) numbers)
      × MadeCall same_number k (returned (nearest near) (found numbers)) n

  -- the call removed the pair there, and returned it
  abbrev pub ReturnsPopped : Near ℕ → Option (K × V) → Known ℕ → Type 0
  ReturnsPopped near pair n =
      (numbers : Option (ℕ × ℕ)) × (pair ≡ option_map (λ (both : ℕ × ℕ). (key_of both.0, value_of both.1)) numbers)
      × MadeCalls same_number k (popping near numbers) n
