-- The head of a node, which is its word 0: its form, and its prefix of at most seven bytes.
--
-- Byte 0 has both lengths: eight times the form's place among the forms, and the length of the prefix, which comes
-- behind it.
use Rattle.std.specs.Prelude.{◌≡◌, ℕ, ◌+◌, ◌*◌, ◌<◌, ◌≤◌, List, length, slice_index}
use Rattle.live_layout.specs.Words.{lane}

pub record IsHead (word form : ℕ) (prefix : List ℕ) : Type 0 where
  pub sized : lane word 0 ≡ 8 * form + length prefix
  pub short : length prefix ≤ 7
  pub bytes : (i : ℕ) → i < length prefix → lane word (i + 1) ≡ slice_index prefix i

-- the bytes begin with the prefix
abbrev pub Begins : List ℕ → List ℕ → Type 0
Begins prefix bytes = (i : ℕ) → i < length prefix → slice_index prefix i ≡ slice_index bytes i
