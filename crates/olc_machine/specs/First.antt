-- What a caller gets of a pair.
use Rattle.std.specs.Prelude.{ℕ, Option, option_map}
use Rattle.std.specs.Borrow.{Bor}

-- a key beside a reference to its payload, which is replaced by its meaning
abbrev pub meant_pair : {P M : Type 0} → (P → M) → Option (ℕ × Bor P) → Option (ℕ × M)
meant_pair meaning found = option_map (λ pair. (pair.0, meaning pair.1.now)) found
