-- What a pair for C has.
use Rattle.std.specs.Prelude.{ℕ}
use Rattle.congee_live_c.specs.declared.Pair.{Pair}

-- its key and its value
abbrev pub pair_of : Pair → ℕ × ℕ
pair_of p = (p.key, p.value)
