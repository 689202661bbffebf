-- The places, which are the layout of a node that can have a child for each byte.
--
-- Word 0 is the head, word 1 counts the children, words 2 to 5 have a bit for each byte, whether it has a child, and then
-- comes a word for each byte.
use Rattle.std.specs.Prelude.{◌≡◌, ◌≢◌, ℕ, ◌+◌, ◌/◌, ◌%◌, ◌<◌, List, length, Some, None}
use Rattle.std.specs.Int.{bit_at}
use Rattle.spec_map.specs.Map.{lookup, Rises}
use Rattle.live_layout.specs.Words.{at}

-- whether a byte has a child: 1 or 0
abbrev pub mark : List ℕ → ℕ → ℕ
mark c b = bit_at (at c (2 + b / 64)) (b % 64)

-- the word of a byte's child
abbrev pub child_of : List ℕ → ℕ → ℕ
child_of c b = at c (6 + b)

-- The words have just these children: the children's words by their keys, ascending.
pub record HasPlaces (c : List ℕ) (es : List (ℕ × ℕ)) : Type 0 where
  pub long : length c ≡ 262
  pub there : (b : ℕ) → b < 256 → mark c b ≡ 1 → lookup es b ≡ Some (child_of c b)
  pub free : (b : ℕ) → b < 256 → mark c b ≡ 0 → lookup es b ≡ None
  pub counted : length es ≡ at c 1
  pub ordered : Rises 0 256 es

-- What a writer does: all but one byte's child stays.
pub record Keeps (c c' : List ℕ) (b : ℕ) : Type 0 where
  pub long : length c' ≡ length c
  pub head : at c' 0 ≡ at c 0
  pub marks : (i : ℕ) → i < 256 → i ≢ b → mark c' i ≡ mark c i
  pub words : (i : ℕ) → i < 256 → i ≢ b → child_of c' i ≡ child_of c i
