-- What the exports answer where a call wasn't made, and how they write a count, as numbers.
use Rattle.std.specs.Prelude.{◌≡◌, ◌⊎◌, ℕ, ◌-◌, ◌^◌, min, ℤ, negsuc}

-- a refusal for lack of memory: -1
abbrev pub oom : ℤ
oom = negsuc 0

-- a writer came in between at each try: -2
abbrev pub busy : ℤ
busy = negsuc 1

-- 64 handles are in use: -3
abbrev pub full : ℤ
full = negsuc 2

-- there was no memory, and the owner that was handed in comes back by a later call: -4
abbrev pub oom_kept : ℤ
oom_kept = negsuc 3

-- a writer came in between at each try, and the owner that was handed in comes back by a later call: -5
abbrev pub busy_kept : ℤ
busy_kept = negsuc 4

-- one of those that refuse an owner
abbrev pub IsRefusal : ℤ → Type 0
IsRefusal code = (code ≡ oom) ⊎ (code ≡ busy) ⊎ (code ≡ oom_kept) ⊎ (code ≡ busy_kept)

-- a count saturates at the maximum of `u64`
abbrev pub capped : ℕ → ℕ
capped n = min n (2 ^ 64 - 1)
