-- Lines that parse as values of some type, by their words.
use Rattle.std.specs.Prelude.{◌≡◌, ℕ, ◌<◌, ◌^◌, List, decimal}
use Rattle.std.specs.List.{join_with_byte, AllByRecursion}

-- the line is the words of the value, with one space between each two, and those that are numbers have 64 bits
pub record Spells {C : Type 0} (words : C → List (List ℕ)) (Fits : C → Type 0)
    (line : List ℕ) (value : C) : Type 0 where
  pub spelled : line ≡ join_with_byte 32 (words value)
  pub numbers : AllByRecursion (λ word. (n : ℕ) → word ≡ decimal n → n < 2 ^ 64) (words value)
  pub fits : Fits value
