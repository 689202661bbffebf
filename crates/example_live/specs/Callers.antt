-- What the callers know.
use Rattle.std.specs.Prelude.{◌≡◌, ℕ, List, [], ◌∷◌, ◌++◌, Option, Some}
use Rattle.share_laws.specs.Keys.{AllLeave, finds, inserts}
use Rattle.share_rule.specs.History.{Entry}

-- HANDED OVER: the giver's insertion, and later the taker's look-up, which finds the value if nobody changed the key in
-- between
pub record HandedOver (giver taker key value : ℕ) (found : Option ℕ) (history : List (Entry ℕ)) : Type 0 where
  pub first : List (Entry ℕ)
  pub between : List (Entry ℕ)
  pub before : Option ℕ
  pub is : history ≡ first ++ (inserts giver key value before ∷ (between ++ finds taker key found ∷ []))
  pub finds_it : AllLeave key between → found ≡ Some value
