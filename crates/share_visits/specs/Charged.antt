-- What the maps of all shards are charged.
use Rattle.std.specs.Prelude.{◌≡◌, ℕ, ◌+◌, ◌-◌, ◌^◌, min, List, [], ◌∷◌}

module _ {M : Type 0} where
  -- the sizes of all, together
  abbrev pub sum_of : (M → ℕ) → List M → ℕ
  sum_of size [] = 0
  sum_of size (m ∷ ms) = size m + sum_of size ms

  -- each is charged so many bytes
  abbrev pub AreCharges : (M → ℕ → Type 0) → List M → List ℕ → Type 0
  AreCharges charges [] [] = Unit {0}
  AreCharges charges (m ∷ ms) (b ∷ bs) = charges m b × AreCharges charges ms bs
  AreCharges charges [] (b ∷ bs) = ⊥
  AreCharges charges (m ∷ ms) [] = ⊥

-- THE CHARGE for all maps: the sum of theirs, which saturates at the greatest number of 128 bits
pub record IsChargeOfAll {M : Type 0} (charges : M → ℕ → Type 0) (maps : List M) (bytes : ℕ) : Type 0 where
  pub sizes : List ℕ
  pub each : AreCharges charges maps sizes
  pub sum : bytes ≡ min (sum_of (λ b. b) sizes) (2 ^ 128 - 1)
