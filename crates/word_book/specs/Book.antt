-- A book as plain data, and what its rule has to allow before a seat makes a step.
use Rattle.std.specs.Prelude.{◌≡◌, ◌≢◌, ℕ, List, [], ◌∷◌, ◌++◌, length, replicate, slice_set}
use mathlib.Core.Option.{some}
use lib.ListN.{get_elem?}
use base.Stored.{Coded, coded×, coded_ℕ, coded_via}

-- Which book it is. No two books have the same first three numbers. The last one is noted for who opened the book: its limit
-- in bytes.
pub record Book : Type 0 where
  pub number : ℕ
  pub views_name : ℕ
  pub words_name : ℕ
  pub limit : ℕ

abbrev pub book_coded : Coded Book
book_coded = coded_via (coded× coded_ℕ (coded× coded_ℕ (coded× coded_ℕ coded_ℕ))) (λ (b : Book). (b.number, (b.views_name, (b.words_name, b.limit))))
    (λ x y e i. record { number = (e i).0; views_name = (e i).1.0; words_name = (e i).1.1.0; limit = (e i).1.1.1 })

-- Which word it is: the key is its place in the list of all words of its book.
pub record Name : Type 0 where
  pub key : ℕ
  pub book : Book

abbrev pub name : ℕ → Book → Name
name k b = record { key = k; book = b }

abbrev pub name_coded : Coded Name
name_coded = coded_via (coded× coded_ℕ book_coded) (λ (w : Name). (w.key, w.book)) (λ x y e i. record { key = (e i).0; book = (e i).1 })

-- The numbers of all words by their keys, and the views of all seats by their ids.
pub record State (V : Type 0) : Type 0 where
  pub words : List ℕ
  pub views : List V

-- What a step asks of the word with a key.
pub data Asked : Type 0 where
  reads : ℕ → Asked
  writes : ℕ → ℕ → Asked
  compares : ℕ → ℕ → ℕ → Asked

-- The words that joined by a step: the first one's key, and how many.
pub record Joined : Type 0 where
  pub first : ℕ
  pub count : ℕ

abbrev pub joined : ℕ → ℕ → Joined
joined k n = record { first = k; count = n }

abbrev pub none_joined : Joined
none_joined = joined 0 0

-- What a step tells its seat: of what was asked, the view before, the number found, the words that joined, and the view
-- after. For a store the number is the one stored.
abbrev pub Tells : Type 0 → Type 1
Tells V = Asked → V → ℕ → Joined → V → Type 0

module _ {V : Type 0} where
  -- The seat has another view.
  abbrev pub looked : State V → ℕ → V → State V
  looked s id w = record { words = s.words; views = slice_set s.views id w }

  -- So it has, and the word k is another number.
  abbrev pub changed : State V → ℕ → ℕ → ℕ → V → State V
  changed s k m id w = record { words = slice_set s.words k m; views = slice_set s.views id w }

  -- So it is, and n words have joined.
  abbrev pub grown : State V → ℕ → ℕ → ℕ → V → ℕ → State V
  grown s k m id w n = record { words = slice_set s.words k m ++ replicate n 0; views = slice_set s.views id w }

  module _ (holds : State V → Type 0) (then : Tells V) (id : ℕ) (v : V) (k : ℕ) where
    -- Whatever the book is: the rule, the seat's view and the word's number n are enough for this.
    abbrev pub Whatever : (State V → ℕ → Type 0) → Type 0
    Whatever follows = (s : State V) (n : ℕ) → holds s
        → get_elem? s.views id ≡ some v → get_elem? s.words k ≡ some n → follows s n

    -- Only the seat's view changes.
    abbrev pub Looks : Asked → State V → ℕ → Type 0
    Looks asked s n = (w : V) × holds (looked s id w) × then asked v n none_joined w

    abbrev pub Loads : Type 0
    Loads = Whatever (Looks (reads k))

    abbrev pub Stores : ℕ → Type 0
    Stores new = Whatever (λ s n.
        (w : V) × holds (changed s k new id w) × then (writes k new) v new none_joined w)

    -- The word becomes the new number, and m words join.
    abbrev pub Wins : ℕ → ℕ → State V → Type 0
    Wins old new s = (w : V) × (m : ℕ) × holds (grown s k new id w m)
        × then (compares k old new) v old (joined (length s.words) m) w

    -- Where another number than the old one is found, it is as for a load.
    abbrev pub Exchanges : ℕ → ℕ → Type 0
    Exchanges old new = Whatever (λ s n.
        (n ≡ old → Wins old new s) × (¬ (n ≡ old) → Looks (compares k old new) s n))

  -- A new seat may have the view w at any time.
  abbrev pub Enters : (State V → Type 0) → V → Type 0
  Enters holds w = (s : State V) → holds s → holds record { words = s.words; views = s.views ++ w ∷ [] }

  -- Two seats of one book meet, and their views may change together.
  abbrev pub Meets : (State V → Type 0) → (V → V → V → V → Type 0) → ℕ → V → ℕ → V → Type 0
  Meets holds then i v j w = (s : State V) → holds s → get_elem? s.views i ≡ some v → get_elem? s.views j ≡ some w → i ≢ j
      → (v' : V) × (w' : V) × holds record { words = s.words; views = slice_set (slice_set s.views j w') i v' } × then v w v' w'
