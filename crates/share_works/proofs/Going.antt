-- How a map goes on by work that leads from its pairs to these.
use Rattle.std.proofs.Common.{◌≡◌, ℕ, Bool, List, sym, subst}
use Rattle.share_rule.specs.inner.Hold.{StepsBy}
use Rattle.spec_map.specs.Call.{Operation}
use Rattle.spec_map.specs.Legal.{IsLegal}
use Rattle.spec_map.specs.Map.{Pairs}
use Rattle.spec_map.specs.Refusal.{never}

module _ {S : Type 0} (same : ℕ → ℕ → Bool) (content : S → Pairs ℕ → Type 0) where
  abbrev pub Goes : List (Operation ℕ ℕ ℕ) → S → S → Type 0
  Goes operations x y = (c : Pairs ℕ) → content x c → (d : Pairs ℕ) × content y d × StepsBy same operations c d

  pub goes_by : (operations : List (Operation ℕ ℕ ℕ)) (x y : S) (p q : Pairs ℕ) → ((m : Pairs ℕ) → content x m → m ≡ p) → content y q
      → IsLegal same never p operations q → Goes operations x y
  goes_by operations x y p q only has legal c h = (q, has, subst (λ (z : Pairs ℕ). IsLegal same never z operations q) (sym (only c h)) legal)
