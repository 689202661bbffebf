-- Bytes that are cut into lines.
use Rattle.std.specs.Prelude.{◌≡◌, ℕ, List, ◌++◌}
use Rattle.std.specs.List.{AllByRecursion, flat_map}
use Rattle.spec_text.specs.Lines.{Lacks, ended}

-- the bytes are these whole lines, each ended by a line feed, and then a rest without one
pub record Cuts (bytes : List ℕ) (whole : List (List ℕ)) (rest : List ℕ) : Type 0 where
  pub spelled : bytes ≡ flat_map ended whole ++ rest
  pub each : AllByRecursion (Lacks 10) whole
  pub last : Lacks 10 rest
