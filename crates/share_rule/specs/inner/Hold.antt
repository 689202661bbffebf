-- What a hold may do with the map, and what its caller knows after it.
use Rattle.std.specs.Prelude.{◌≡◌, ℕ, Bool, List, [], ◌∷◌}
use Rattle.spec_map.specs.Call.{Operation}
use Rattle.spec_map.specs.Legal.{IsLegal}
use Rattle.spec_map.specs.Map.{Pairs}
use Rattle.spec_map.specs.Refusal.{never}
use Rattle.share_rule.specs.inner.SeatView.{Seat}
use Rattle.share_rule.specs.inner.Steps.{MadeAll, SeesNoMore, at_of}

module _ {T : Type 0} (same : T → T → Bool) where
  -- how the map goes on by the operations of a hold
  abbrev pub StepsBy : List (Operation ℕ T T) → Pairs T → Pairs T → Type 0
  StepsBy operations c d = IsLegal same never c operations d

  -- what is known after it: the operations were made, or there were none and nothing more is seen. The seat keeps its
  -- number
  abbrev pub HeldBy : {N S : Type 0} → List (Operation ℕ T T) → Seat T N S → Seat T N S → Type 0
  HeldBy [] m n = SeesNoMore m n × (at_of n.0 ≡ at_of m.0)
  HeldBy (operation ∷ operations) m n = MadeAll same m (operation ∷ operations) n × (at_of n.0 ≡ at_of m.0)
