-- HOW RETIREMENTS ARE COUNTED: each retired node has the count of those before it as its stamp.
use Rattle.std.specs.Prelude.{ℕ, ◌+◌, ◌-◌, ◌^◌, Option, Some, None, if◌then◌else◌, nat_lt}

-- no more retirements are counted from here on
abbrev pub last_count : ℕ
last_count = 2 ^ 64 - 1

-- the stamp of a node that is retired now: the count of those before, while they are counted
abbrev pub stamp_at : ℕ → Option ℕ
stamp_at count = if nat_lt count last_count then Some count else None

-- the count after one more
abbrev pub count_after : ℕ → ℕ
count_after count = if nat_lt count last_count then count + 1 else count
