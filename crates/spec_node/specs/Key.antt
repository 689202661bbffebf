-- Keys and prefixes as lists of bytes, most significant first, and the numbers that they represent.
use Rattle.std.specs.Prelude.{◌≡◌, ◌≢◌, ℕ, zero, suc, ◌+◌, ◌*◌, ◌<◌, Bool, true, false, ◌==◌, ◌&&◌, IsTrue, List, [], ◌∷◌, length, take, slice_index, slice_index_or}

-- how many numbers r bytes can write
abbrev pub span : ℕ → ℕ
span zero = 1
span (suc r) = 256 * span r

-- the least number of r bytes whose bytes begin with these
abbrev pub least : ℕ → List ℕ → ℕ
least r [] = 0
least zero (b ∷ p) = 0
least (suc r) (b ∷ p) = b * span r + least r p

-- how many numbers of r bytes begin with these bytes
abbrev pub room : ℕ → List ℕ → ℕ
room r [] = span r
room zero (b ∷ p) = 1
room (suc r) (b ∷ p) = room r p

-- each is a byte
abbrev pub AreBytes : List ℕ → Type 0
AreBytes [] = Unit {0}
AreBytes (b ∷ p) = (b < 256) × AreBytes p

-- the number of a key of eight bytes
abbrev pub key_number : List ℕ → ℕ
key_number key = least 8 key

-- the least key that begins with the prefix, and the least key after all of those
abbrev pub low : List ℕ → ℕ
low p = least 8 p

abbrev pub high : List ℕ → ℕ
high p = least 8 p + room 8 p

-- whether q begins with p
abbrev pub begins : List ℕ → List ℕ → Bool
begins [] q = true
begins (b ∷ p) [] = false
begins (b ∷ p) (c ∷ q) = b == c && begins p q

-- q begins with p
pub record Begins (p q : List ℕ) : Type 0 where
  pub holds : IsTrue (begins p q)

-- p and q agree on the bytes before this place, and differ there
pub record IsFirstDifference (p q : List ℕ) (i : ℕ) : Type 0 where
  pub inside : i < length p
  pub same_before : take i p ≡ take i q
  pub differ : slice_index p i ≢ slice_index q i

-- the byte under which a key goes on below these bytes
abbrev pub next_byte : List ℕ → List ℕ → ℕ
next_byte p key = slice_index_or key (length p) 0
