-- The lock word of a node: 4 * version + 2 * locked + obsolete.
use Rattle.std.specs.Prelude.{◌≡◌, ◌≢◌, ℕ, ◌-◌, ◌/◌, ◌%◌, ◌^◌}

abbrev pub version : ℕ → ℕ
version word = word / 4

abbrev pub IsLocked : ℕ → Type 0
IsLocked word = word / 2 % 2 ≡ 1

abbrev pub IsObsolete : ℕ → Type 0
IsObsolete word = word % 2 ≡ 1

-- neither locked nor obsolete
abbrev pub IsFree : ℕ → Type 0
IsFree word = word % 4 ≡ 0

-- no version comes after this one
abbrev pub last_version : ℕ
last_version = 2 ^ 62 - 1

-- The word is the remembered one, and may be locked: a node at the last version is never written.
pub record MayUpgrade (word remembered : ℕ) : Type 0 where
  pub same : word ≡ remembered
  pub free : IsFree word
  pub room : version word ≢ last_version
