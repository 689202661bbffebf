-- How many words each segment has, and which keys.
use Rattle.std.specs.Prelude.{◌≡◌, ℕ, zero, suc, ◌+◌, ◌*◌, ◌/◌, ◌^◌, ◌<◌, min, List, [], ◌∷◌, length, slice_index_or}
use base.Stored.{Coded, coded×, coded_ℕ, coded_via}
use Rattle.boxcar.specs.Table.{first, others}
use Rattle.word_book.specs.Book.{Book, book_coded, Name, name}

-- the first 32 have 512 words each, the next 32 twice as many, and so on up to 65,536
abbrev pub size : ℕ → ℕ
size j = 512 * 2 ^ min (j / 32) 7

-- how many words all segments before this one have
abbrev pub before : ℕ → ℕ
before zero = 0
before (suc j) = before j + size j

-- The word at this place, counted over all segments, is the k-th of the segment j.
abbrev pub IsWithin : ℕ → ℕ → ℕ → Type 0
IsWithin place j k = (k < size j) × (before j + k ≡ place)

-- A directory: its book, the first key of its first segment, and how many segments it may have.
pub record Directed : Type 0 where
  pub base : ℕ
  pub most : ℕ
  pub book : Book

abbrev pub directed_coded : Coded Directed
directed_coded = coded_via (coded× coded_ℕ (coded× coded_ℕ book_coded)) (λ (d : Directed). (d.base, (d.most, d.book)))
    (λ x y e i. record { base = (e i).0; most = (e i).1.0; book = (e i).1.1 })

-- Each segment has so many keys, also where it has fewer words. So a word's segment and its place there are the high and the low
-- bits of its key.
abbrev pub keys : ℕ
keys = 65536

abbrev pub first_key : Directed → ℕ → ℕ
first_key d j = d.base + keys * j

-- These words have the keys from k on.
abbrev pub AreWords : ℕ → Book → List Name → Type 0
AreWords k b words = (i : ℕ) (d : Name) → i < length words → slice_index_or words i d ≡ name (k + i) b

abbrev pub IsSegment : Directed → ℕ → List Name → Type 0
IsSegment d j words = (length words ≡ size j) × AreWords (first_key d j) d.book words × (j < d.most)

-- a directory as numbers, which tag its slots
abbrev pub numbers : Directed → List ℕ
numbers d = d.base ∷ d.most ∷ d.book.number ∷ d.book.views_name ∷ d.book.words_name ∷ d.book.limit ∷ []

abbrev pub directed_by : List ℕ → Directed
directed_by t = record {
  base = first t;
  most = first (others t);
  book = record {
    number = first (others (others t));
    views_name = first (others (others (others t)));
    words_name = first (others (others (others (others t))));
    limit = first (others (others (others (others (others t)))));
  };
}
