-- What a writer of a list does: these words became those.
use Rattle.std.specs.Prelude.{◌≡◌, ◌≢◌, ℕ, ◌+◌, ◌-◌, ◌/◌, ◌<◌, List, length}
use Rattle.live_layout.specs.Words.{at}
use Rattle.live_layout.specs.ListCells.{count, key, child}

-- The p-th key is b, and there are so many children.
pub record StoresKey (c c' : List ℕ) (p b n : ℕ) : Type 0 where
  pub long : length c' ≡ length c
  pub others : (j : ℕ) → j ≢ 1 → j ≢ 1 + (p + 1) / 8 → at c' j ≡ at c j
  pub counts : count c' ≡ n
  pub here : key c' p ≡ b
  pub keys : (i : ℕ) → i ≢ p → key c' i ≡ key c i

-- The p-th child has the key b and the word w, and there are so many children.
pub record Stores (room : ℕ) (c c' : List ℕ) (p b w n : ℕ) : Type 0 where
  pub long : length c' ≡ length c
  pub head : at c' 0 ≡ at c 0
  pub counts : count c' ≡ n
  pub here : (key c' p ≡ b) × (child room c' p ≡ w)
  pub others : (i : ℕ) → i < room → i ≢ p → (key c' i ≡ key c i)
      × (child room c' i ≡ child room c i)

-- There is a child more, at the end.
pub record PutsLast (room : ℕ) (c c' : List ℕ) (b w : ℕ) : Type 0 where
  pub long : length c' ≡ length c
  pub counts : count c' ≡ count c + 1
  pub here : (key c' (count c) ≡ b) × (child room c' (count c) ≡ w)
  pub others : (i : ℕ) → i < count c → (key c' i ≡ key c i) × (child room c' i ≡ child room c i)

-- The p-th child became another.
pub record ChangesAt (room : ℕ) (c c' : List ℕ) (p w : ℕ) : Type 0 where
  pub long : length c' ≡ length c
  pub counts : count c' ≡ count c
  pub keys : (i : ℕ) → i < count c → key c' i ≡ key c i
  pub here : child room c' p ≡ w
  pub others : (i : ℕ) → i < count c → i ≢ p → child room c' i ≡ child room c i

-- The p-th child is gone, and the last one came to its place.
pub record TakesAt (room : ℕ) (c c' : List ℕ) (p : ℕ) : Type 0 where
  pub long : length c' ≡ length c
  pub counts : count c' + 1 ≡ count c
  pub here : p < count c' → (key c' p ≡ key c (count c - 1))
      × (child room c' p ≡ child room c (count c - 1))
  pub others : (i : ℕ) → i < count c' → i ≢ p → (key c' i ≡ key c i)
      × (child room c' i ≡ child room c i)

-- The same children are in the same order, where there is room for others to come.
pub record Moves (room room' : ℕ) (c c' : List ℕ) : Type 0 where
  pub counts : count c' ≡ count c
  pub each : (i : ℕ) → i < count c → (key c' i ≡ key c i) × (child room' c' i ≡ child room c i)
