-- What the callers know.
use Rattle.std.specs.Prelude.{◌≡◌, ℕ, List, [], ◌∷◌, ◌++◌, Option, Some}
use Rattle.spec_map.specs.Map.{Pairs, between}
use Rattle.congee.specs.Runs.{same_number}
use Rattle.congee.specs.Operations.{inserted_with}
use Rattle.congee.specs.Keys.{AllLeave, IsAtLeast, OwnsKeys, finds, inserts}
use Rattle.congee.specs.History.{Entry, IsHistory}
use Rattle.congee.specs.Known.{Known, MadeCall, own_entries}

-- HANDED OVER: the giver's insertion, and later the taker's look-up, which finds the value if nobody changed the key in
-- between
pub record HandedOver (giver taker key value : ℕ) (found : Option ℕ) (history : List (Entry ℕ)) : Type 0 where
  pub first : List (Entry ℕ)
  pub between : List (Entry ℕ)
  pub before : Option ℕ
  pub is : history ≡ first ++ (inserts giver key value before ∷ (between ++ finds taker key found ∷ []))
  pub finds_it : AllLeave key between → found ≡ Some value

-- NOTED: the giver's insertion
pub record IsNoted (giver key value : ℕ) (history : List (Entry ℕ)) : Type 0 where
  pub first : List (Entry ℕ)
  pub rest : List (Entry ℕ)
  pub before : Option ℕ
  pub is : history ≡ first ++ (inserts giver key value before ∷ rest)

-- COUNTED: the number at the key is at least the previous one
pub record IsCounted (k : Known ℕ) (key : ℕ) (before : Option ℕ) (n : Known ℕ) : Type 0 where
  pub number : ℕ
  pub made : MadeCall same_number k (inserted_with key before number) n
  pub rises : IsAtLeast before (Some number)

-- KEPT: the caller's own calls, if it owns keys, are those of a map of its own
pub record KeepsOwn (k : Known ℕ) (key value : ℕ) (found : Option ℕ) (n : Known ℕ) : Type 0 where
  pub own : (low high : ℕ) → OwnsKeys k.caller low high n.seen
      → (m : Pairs ℕ) × IsHistory same_number (own_entries n) (between m low high)
  pub before : Option ℕ
  pub last : own_entries n
      ≡ (own_entries k ++ inserts k.caller key value before ∷ []) ++ finds k.caller key found ∷ []
  pub finds_it : (low high : ℕ) → OwnsKeys k.caller low high n.seen → found ≡ Some value
