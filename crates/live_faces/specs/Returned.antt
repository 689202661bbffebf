-- WHAT A CALL RETURNS, and the entry with which the history ends that its guard has then seen. Keys and values are written
-- as numbers, and values are read back from them.
use Rattle.std.specs.Prelude.{◌≡◌, ℕ, Bool, List, map, Option, Result, Ok, Err}
use Rattle.std.specs.Option.{option_map}
use Rattle.spec_map.specs.Map.{Pairs}
use Rattle.share_rule.specs.History.{Entry}
use Rattle.live_nodes.specs.Known.{Known, MadeCall}
use Rattle.live_updates.specs.Entries.{swapped}
use Rattle.live_scans.specs.Scans.{HasNext}
use Rattle.live_scans.specs.Floors.{HasBefore}
use Rattle.live_updates.specs.Closures.{EndsWithCall}
use Rattle.live_updates.specs.ClosureEntries.{inserted_with}
use Rattle.live_pool.specs.Pops.{HasPopped}
use Rattle.live_copies.specs.Copies.{HasCopied}

-- A CALL, by a guard that knew k
module _ {V : Type 0} (of_number : ℕ → V) (k : Known) where
  -- the call returned the key's value before it, by which its entry is known
  abbrev pub ReturnsOld : (Option ℕ → Entry ℕ) → Option V → Known → Type 0
  ReturnsOld entry before n = (number : Option ℕ) × (before ≡ option_map of_number number) × MadeCall k (entry number) n

  -- the same, where the new number was put together from the previous one
  abbrev pub ReturnsComputed : ℕ → (Option ℕ → ℕ) → Option V → Known → Type 0
  ReturnsComputed key new = ReturnsOld (λ number. inserted_with k.caller key number (new number))

  -- compare_exchange returned the new value itself, or the current one, which isn't the expected one
  abbrev pub ReturnsExchanged : (V → ℕ) → ℕ → ℕ → Option V → Result (Option V) (Option V) → Known → Type 0
  ReturnsExchanged number key old new (Ok stored) n =
      (stored ≡ new) × MadeCall k (swapped k.caller key old (option_map number new) (Ok (option_map number new))) n
  ReturnsExchanged number key old new (Err current) n =
      (found : Option ℕ) × (current ≡ option_map of_number found) × MadeCall k (swapped k.caller key old (option_map number new) (Err found)) n

  -- compute_or_insert returned the previous value. `step` are the calls of its closure, which was `first`. The last one of
  -- them, from the previous value's number to the new one, left it as `last`
  abbrev pub ReturnsInserted : {F : Type 0} → (F → Option ℕ → ℕ → F → Type 0) → F → F → ℕ → Option V → Known → Type 0
  ReturnsInserted step first last key before n =
      (old : Option ℕ) × (new : ℕ) × (before ≡ option_map of_number old) × MadeCall k (inserted_with k.caller key old new) n
      × EndsWithCall step first old new last

-- a pair, by its numbers
abbrev pub pair_of : {K V : Type 0} → (ℕ → K) → (ℕ → V) → ℕ × ℕ → K × V
pair_of of_key of_value p = (of_key p.0, of_value p.1)

-- A READER by a guard that knew k returned the next pair from a key on, or none
abbrev pub ReturnsNext : {P : Type 0} → (ℕ × ℕ → P) → Known → ℕ → Option P → Known → Type 0
ReturnsNext of_pair k low found n = (pair : Option (ℕ × ℕ)) × (found ≡ option_map of_pair pair) × HasNext k low pair n

-- The same of the last pair below a key
abbrev pub ReturnsBefore : {P : Type 0} → (ℕ × ℕ → P) → Known → ℕ → Option P → Known → Type 0
ReturnsBefore of_pair k high found n = (pair : Option (ℕ × ℕ)) × (found ≡ option_map of_pair pair) × HasBefore k high pair n

-- A POP by a guard that knew k returned the pair that it removed, or none
abbrev pub ReturnsPopped : {P : Type 0} → (ℕ × ℕ → P) → Bool → ℕ → ℕ → Known → Option P → Known → Type 0
ReturnsPopped of_pair up low high k found n = (pair : Option (ℕ × ℕ)) × (found ≡ option_map of_pair pair) × HasPopped up low high k pair n

-- All pairs of one moment were returned, to a guard that knew k
abbrev pub ReturnsAll : {P : Type 0} → (ℕ × ℕ → P) → Known → List P → Known → Type 0
ReturnsAll of_pair k found n = (pairs : Pairs ℕ) × (found ≡ map of_pair pairs) × HasCopied k pairs n
