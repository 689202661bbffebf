-- What is kept of a line while it is read.
use Rattle.std.specs.Prelude.{◌≡◌, ℕ, ◌<◌, List, [], ◌∷◌, ◌++◌, length, Option, Some, None, if◌then◌else◌, nat_lt}

-- this is kept of the line: its bytes, or only that they are more than 256
abbrev pub IsKeptOf : Option (List ℕ) → List ℕ → Type 0
IsKeptOf (Some bytes) line = line ≡ bytes
IsKeptOf None line = 256 < length line

-- what is kept after one more byte
abbrev pub kept_with : Option (List ℕ) → ℕ → Option (List ℕ)
kept_with None byte = None
kept_with (Some bytes) byte =
    if nat_lt (length bytes) 256 then Some (bytes ++ byte ∷ []) else None
