-- The list, which is the layout of a node that has room for a few children.
--
-- Word 0 is the head. From word 1 on come bytes, eight to a word: how many children there are, and then their keys in the
-- order of entry. Behind them come the children's words in the same order.
use Rattle.std.specs.Prelude.{◌≡◌, ◌≢◌, ℕ, ◌+◌, ◌/◌, ◌%◌, ◌<◌, ◌≤◌, List, length, Option, Some, None}
use Rattle.spec_map.specs.Map.{lookup, Rises}
use Rattle.live_layout.specs.Words.{at, lane}

-- a byte of the words behind the head
abbrev pub byte : List ℕ → ℕ → ℕ
byte c m = lane (at c (1 + m / 8)) (m % 8)

-- how many children there are
abbrev pub count : List ℕ → ℕ
count c = byte c 0

-- the key of the i-th child
abbrev pub key : List ℕ → ℕ → ℕ
key c i = byte c (i + 1)

-- where the children's words begin, if there is room for so many
abbrev pub first : ℕ → ℕ
first room = 1 + (room + 8) / 8

-- the word of the i-th child
abbrev pub child : ℕ → List ℕ → ℕ → ℕ
child room c i = at c (first room + i)

-- The words of a node with room for so many have just these children: the children's words by their keys, ascending.
pub record HasList (room : ℕ) (c : List ℕ) (es : List (ℕ × ℕ)) : Type 0 where
  pub long : length c ≡ first room + room
  pub few : count c ≤ room
  pub apart : (i j : ℕ) → i < j → j < count c → key c i ≢ key c j
  pub each : (i : ℕ) → i < count c → lookup es (key c i) ≡ Some (child room c i)
  pub free : (b : ℕ) → ((i : ℕ) → i < count c → key c i ≢ b) → lookup es b ≡ None
  pub counted : length es ≡ count c
  pub ordered : Rises 0 256 es

-- the answer of a search: the place of the key's child, and its word
abbrev pub IsFound : ℕ → List ℕ → ℕ → Option (ℕ × ℕ) → Type 0
IsFound room c b None = (i : ℕ) → i < count c → key c i ≢ b
IsFound room c b (Some e) = (e.0 < count c) × (key c e.0 ≡ b) × (child room c e.0 ≡ e.1)

-- the word of a child that was found
abbrev pub word_found : Option (ℕ × ℕ) → Option ℕ
word_found None = None
word_found (Some e) = Some e.1
