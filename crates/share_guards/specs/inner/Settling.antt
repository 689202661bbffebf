-- The operations of a hold that settles a share, and what comes of it.
use Rattle.std.specs.Prelude.{◌≡◌, ◌≢◌, ◌^◌, ℕ, List, [], ◌∷◌, Result, Ok, Err, MatchResult}
use Rattle.share_guards.specs.Operations.{returned}
use Rattle.share_state.specs.Held.{ShareView}
use Rattle.spec_map.specs.Call.{Operation, count, counted}

-- the pairs were counted, or the share isn't the whole one
abbrev pub settling : {T : Type 0} → Result ℕ ShareView → List (Operation ℕ T T)
settling (Ok n) = returned count (counted n) ∷ []
settling (Err share) = []

-- what comes of a share
abbrev pub SettlesTo : ShareView → Result ℕ ShareView → Type 0
SettlesTo share settled = MatchResult settled (λ n. share.weight ≡ 2 ^ 63) (λ s. (share.weight ≢ 2 ^ 63) × (s ≡ share))
