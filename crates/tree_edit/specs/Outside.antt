-- The pairs of a map that aren't between two keys.
use Rattle.std.specs.Prelude.{ℕ, ◌&&◌, not, nat_lt, nat_le, filter}
use Rattle.spec_map.specs.Map.{Pairs}

-- the pairs with keys below low, or from high on: those that aren't between the two
abbrev pub outside : {V : Type 0} → Pairs V → ℕ → ℕ → Pairs V
outside es low high = filter (λ e. not (nat_le low e.0 && nat_lt e.0 high)) es
