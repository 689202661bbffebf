-- What a seat knows of the nodes, beside what its client knows.
use Rattle.std.specs.Prelude.{◌≡◌, ◌⊎◌, ℕ, List, [], ◌∷◌, cond, nat_eq}
use Rattle.live_nodes.specs.Nodes.{Content, at}

-- Where a node lies, for good: its number, the key of its version word, the length of its content.
pub record Place : Type 0 where
  pub number : ℕ
  pub key : ℕ
  pub len : ℕ

-- A word that was taken, and what was read since: numbers of the content by their places.
pub record Read : Type 0 where
  pub number : ℕ
  pub word : ℕ
  pub saw : List (ℕ × ℕ)

-- A node that the seat holds, and what it has written there.
pub record Hold : Type 0 where
  pub number : ℕ
  pub word : ℕ
  pub draft : Content

-- Words for new nodes, which no other seat writes.
pub record Room : Type 0 where
  pub start : ℕ
  pub draft : Content

pub record SeatView (V : Type 0) : Type 0 where
  pub client : V
  pub places : List Place
  pub reads : List Read
  pub holds : List Hold
  pub room : Room

abbrev pub seat_view : {V : Type 0} → V → List Place → List Read → List Hold → Room → SeatView V
seat_view v places reads holds room = record { client = v; places = places; reads = reads; holds = holds; room = room }

abbrev pub place : ℕ → ℕ → ℕ → Place
place k p n = record { number = k; key = p; len = n }

abbrev pub read : ℕ → ℕ → List (ℕ × ℕ) → Read
read k w saw = record { number = k; word = w; saw = saw }

abbrev pub hold : ℕ → ℕ → Content → Hold
hold k w d = record { number = k; word = w; draft = d }

abbrev pub room_at : ℕ → Content → Room
room_at p d = record { start = p; draft = d }

abbrev pub no_room : Room
no_room = room_at 0 []

abbrev pub IsIn : {A : Type 0} → A → List A → Type 0
IsIn x [] = ⊥
IsIn x (y ∷ ys) = (y ≡ x) ⊎ IsIn x ys

abbrev pub Each : {A : Type 0} → (A → Type 0) → List A → Type 0
Each Q [] = Unit {0}
Each Q (x ∷ xs) = Q x × Each Q xs

abbrev pub Agree : Content → List (ℕ × ℕ) → Type 0
Agree c saw = Each (λ x. at c x.0 ≡ x.1) saw

abbrev pub without : ℕ → List Hold → List Hold
without k [] = []
without k (h ∷ hs) = cond (nat_eq k h.number) (without k hs) (h ∷ without k hs)

abbrev pub with_draft : ℕ → Content → List Hold → List Hold
with_draft k d [] = []
with_draft k d (h ∷ hs) = cond (nat_eq k h.number) (hold k h.word d) h ∷ with_draft k d hs
