-- What a range is written as.
use Rattle.std.proofs.Common.{◌≡◌, ℕ, List, [], ◌∷◌, map, refl, ap}

-- pairs of numbers are written unchanged
pub as_they_are : (es : List (ℕ × ℕ)) → map (λ (e : ℕ × ℕ). (e.0, e.1)) es ≡ es
as_they_are [] = refl
as_they_are (e ∷ es) = ap (λ (xs : List (ℕ × ℕ)). e ∷ xs) (as_they_are es)
