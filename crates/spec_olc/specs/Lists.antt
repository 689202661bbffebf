-- Lists of numbers.
use Rattle.std.specs.Prelude.{ℕ, Bool, false, ◌==◌, ◌||◌, List, [], ◌∷◌, if◌then◌else◌}
use Rattle.spec_map.specs.Map.{without}

-- whether the number is in the list
abbrev pub is_in : ℕ → List ℕ → Bool
is_in n [] = false
is_in n (x ∷ xs) = x == n || is_in n xs

-- the list without the number
abbrev pub off : ℕ → List ℕ → List ℕ
off n [] = []
off n (x ∷ xs) = if x == n then off n xs else x ∷ off n xs

-- the map without these keys
abbrev pub without_all : {X : Type 0} → List (ℕ × X) → List ℕ → List (ℕ × X)
without_all m [] = m
without_all m (k ∷ ks) = without_all (without m k) ks
