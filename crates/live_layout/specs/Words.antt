-- Words of 64 bits, and what a seat does with those of a node.
use Rattle.std.specs.Prelude.{◌≡◌, ℕ, List, slice_index}
use Rattle.std.specs.Int.{w64, to_le_bytes}

-- the word at a place
abbrev pub at : List ℕ → ℕ → ℕ
at c i = slice_index c i

-- a byte of a word, the lowest first
unfoldable pub lane : ℕ → ℕ → ℕ
lane w j = slice_index (to_le_bytes w64 w) j

module _ {D S : Type 0} where
  -- The seat still may use these words, and is as it was but for them. `rest` is what it is without them.
  pub record Stays (may : D → S → Type 0) (rest : D → S → S) (d : D) (s t : S) : Type 0 where
    pub still : may d t
    pub others : rest d t ≡ rest d s

  -- The seat is as it was. So are the words that it writes.
  pub record Looks (may : D → S → Type 0) (words : D → S → List ℕ) (d : D) (s t : S) : Type 0 where
    pub still : may d t
    pub kept : words d t ≡ words d s
    pub same : t ≡ s

-- Whatever is written to `e`, the words of `d` stay.
abbrev pub Apart : {D E S : Type 0} → (D → S → Type 0) → (D → S → List ℕ) → (E → S → S) → D → E
    → Type 0
Apart {D} {E} {S} may words rest d e =
    (s t : S) → rest e t ≡ rest e s → may d s → may d t × (words d t ≡ words d s)
