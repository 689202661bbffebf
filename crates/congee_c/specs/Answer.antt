-- What the exports answer, as numbers.
use Rattle.std.specs.Prelude.{ℕ, ℤ, pos, negsuc, Option, Some, None, ◌+◌, ◌%◌, ◌^◌}

-- 1 where there is a value or a pair, and 0 where there is none
abbrev pub is_there : {V : Type 0} → Option V → ℤ
is_there None = pos 0
is_there (Some _) = pos 1

-- what a place holds after a value was written to it, if there is one
abbrev pub put_if_there : Option ℕ → ℕ → ℕ
put_if_there None held = held
put_if_there (Some value) held = value

-- the sum of the value and a number, modulo 2 to the 64, or the number where there is no value
abbrev pub sum_with : Option ℕ → ℕ → ℕ
sum_with None number = number
sum_with (Some value) number = (value + number) % 2 ^ 64

-- a refusal for lack of memory: -1
abbrev pub oom : ℤ
oom = negsuc 0
