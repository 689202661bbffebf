-- What each step tells its seat. A `told` is what the client picks.
use Rattle.std.specs.Prelude.{◌≡◌, ◌≢◌, ℕ, ◌+◌, ◌*◌, ◌<◌, List, [], ◌∷◌, ◌++◌, length, slice_index, slice_set, take, drop, replicate, cond, nat_eq, Option, Some, None}
use mathlib.Core.Option.{some}
use lib.ListN.{get_elem?}
use Rattle.word_book.specs.Book.{reads, writes, compares, Tells}
use Rattle.live_nodes.specs.Nodes.{Content}
use Rattle.live_nodes.specs.Seats.{Place, Read, Hold, SeatView, seat_view, place, read, hold, room_at, IsIn, Each, Agree, without, with_draft}
use Rattle.word_segments.specs.Segments.{keys}
use Rattle.live_nodes.specs.Rule.{first_key}

-- what was read of a node since its word was taken last, and what a seat holds of it
abbrev pub read_of : ℕ → List Read → Option Read
read_of k [] = None
read_of k (r ∷ rs) = cond (nat_eq k r.number) (Some r) (read_of k rs)

abbrev pub hold_of : ℕ → List Hold → Option Hold
hold_of k [] = None
hold_of k (h ∷ hs) = cond (nat_eq k h.number) (Some h) (hold_of k hs)

abbrev pub saw_in : ℕ → ℕ × ℕ → List Read → List Read
saw_in k x [] = []
saw_in k x (r ∷ rs) = cond (nat_eq k r.number) (read r.number r.word (x ∷ r.saw) ∷ rs) (r ∷ saw_in k x rs)

-- the content of a new node of n numbers, whose last one is x, by what was written of it
abbrev pub new_content : Content → ℕ → ℕ → Content
new_content draft n x = take n (drop 1 (slice_set draft n x))

-- What was read of a node under that word is so in this content.
abbrev pub Fits : ℕ → ℕ → Content → Read → Type 0
Fits k word d r = r.number ≡ k → r.word ≡ word → Agree d r.saw

module _ {V : Type 0} where
  abbrev pub took : SeatView V → ℕ → ℕ → SeatView V
  took v k w = seat_view v.client v.places (read k w [] ∷ v.reads) v.holds v.room

  abbrev pub saw : SeatView V → ℕ → ℕ × ℕ → SeatView V
  saw v k x = seat_view v.client v.places (saw_in k x v.reads) v.holds v.room

  abbrev pub learned : SeatView V → List Place → V → SeatView V
  learned v ps c = seat_view c (ps ++ v.places) v.reads v.holds v.room

  abbrev pub met : SeatView V → V → SeatView V
  met v c = seat_view c v.places v.reads v.holds v.room

  abbrev pub locked : SeatView V → V → ℕ → ℕ → Content → SeatView V
  locked v c k word content = seat_view c v.places v.reads (hold k word content ∷ v.holds) v.room

  abbrev pub wrote : SeatView V → ℕ → Content → SeatView V
  wrote v k draft = seat_view v.client v.places v.reads (with_draft k draft v.holds) v.room

  abbrev pub freed : SeatView V → V → ℕ → SeatView V
  freed v c k = seat_view c v.places v.reads (without k v.holds) v.room

  abbrev pub put : SeatView V → ℕ → ℕ → SeatView V
  put v i x = seat_view v.client v.places v.reads v.holds (room_at v.room.start (slice_set v.room.draft i x))

  abbrev pub made : SeatView V → V → ℕ → ℕ → SeatView V
  made v c k n = seat_view c (place k v.room.start n ∷ v.places) v.reads v.holds
      (room_at (v.room.start + n + 1) (drop (n + 1) v.room.draft))

  abbrev pub given : SeatView V → ℕ → ℕ → SeatView V
  given v p n = seat_view v.client v.places v.reads v.holds (room_at p (replicate n 0))

  -- the same word is found, or another
  pub record Checked (told : List Place → V → Type 0) (word : ℕ) (v : SeatView V) (n : ℕ) (w : SeatView V) : Type 0 where
    pub hit : n ≡ word → (ps : List Place) × (c : V) × (w ≡ learned v ps c) × told ps c
    pub miss : n ≢ word → w ≡ v

  -- the node is locked, or not
  pub record Tried (told : Content → V → Type 0) (k word new len : ℕ) (v : SeatView V) (n : ℕ) (w : SeatView V) : Type 0 where
    pub won : n ≡ word → (d : Content) × (c : V) × (length d ≡ len) × (w ≡ locked v c k new d) × told d c
        × ((m : ℕ) → word ≡ 4 * m → Each (Fits k word d) v.reads)
    pub lost : n ≢ word → w ≡ v

  -- Nothing changes. The number found is the one that the seat has written last, at a word that no other seat writes: of a
  -- node that it holds, or of its room.
  pub record Looked (key : ℕ) (v : SeatView V) (n : ℕ) (w : SeatView V) : Type 0 where
    pub same : w ≡ v
    pub held : (p : Place) (i : ℕ) (h : Hold) → IsIn p v.places → i < p.len → p.key + i + 1 ≡ key
        → hold_of p.number v.holds ≡ Some h → n ≡ slice_index h.draft i
    pub roomed : (i m : ℕ) → v.room.start + i ≡ key → get_elem? v.room.draft i ≡ some m → n ≡ m

  -- The word of a node that is known is taken.
  abbrev pub Takes : Tells (SeatView V)
  Takes (reads key) v n more w = (p : Place) → IsIn p v.places → p.key ≡ key → w ≡ took v p.number n
  Takes (writes key new) v n more w = ⊥
  Takes (compares key old new) v n more w = ⊥

  -- A number of its content is read.
  abbrev pub Sees : Tells (SeatView V)
  Sees (reads key) v n more w = (p : Place) (i : ℕ) → IsIn p v.places → i < p.len → p.key + i + 1 ≡ key → w ≡ saw v p.number (i, n)
  Sees (writes key new) v n more w = ⊥
  Sees (compares key old new) v n more w = ⊥

  -- A word is looked at.
  abbrev pub Looks : Tells (SeatView V)
  Looks (reads key) v n more w = Looked key v n w
  Looks (writes key new) v n more w = ⊥
  Looks (compares key old new) v n more w = ⊥

  -- Nothing is learnt.
  abbrev pub Idles : Tells (SeatView V)
  Idles (reads key) v n more w = w ≡ v
  Idles (writes key new) v n more w = ⊥
  Idles (compares key old new) v n more w = ⊥

  -- A word that was taken is compared.
  abbrev pub Checks : (V → ℕ → ℕ → List (ℕ × ℕ) → List Place → V → Type 0) → Tells (SeatView V)
  Checks told (reads key) v n more w = (p : Place) (r : Read) → IsIn p v.places → p.key ≡ key
      → read_of p.number v.reads ≡ Some r → Checked (told v.client p.number r.word r.saw) r.word v n w
  Checks told (writes key new) v n more w = ⊥
  Checks told (compares key old new) v n more w = ⊥

  -- A node is locked.
  abbrev pub Locks : (V → ℕ → Content → V → Type 0) → Tells (SeatView V)
  Locks told (reads key) v n more w = ⊥
  Locks told (writes key new) v n more w = ⊥
  Locks told (compares key old new) v n more w = (p : Place) → IsIn p v.places → p.key ≡ key
      → Tried (told v.client p.number) p.number old new p.len v n w

  -- A number of a held node's content is written.
  abbrev pub Writes : Tells (SeatView V)
  Writes (reads key) v n more w = ⊥
  Writes (writes key x) v n more w = (p : Place) (i : ℕ) (h : Hold) → IsIn p v.places → i < p.len → p.key + i + 1 ≡ key
      → hold_of p.number v.holds ≡ Some h → w ≡ wrote v p.number (slice_set h.draft i x)
  Writes (compares key old new) v n more w = ⊥

  -- A held node is free again.
  abbrev pub Frees : (V → ℕ → Content → V → Type 0) → Tells (SeatView V)
  Frees told (reads key) v n more w = ⊥
  Frees told (writes key x) v n more w = (p : Place) (h : Hold) → IsIn p v.places → p.key ≡ key
      → hold_of p.number v.holds ≡ Some h → (c : V) × (w ≡ freed v c p.number) × told v.client p.number h.draft c
  Frees told (compares key old new) v n more w = ⊥

  -- A number of the seat's own room is written.
  abbrev pub Puts : Tells (SeatView V)
  Puts (reads key) v n more w = ⊥
  Puts (writes key x) v n more w = (i : ℕ) → v.room.start + i ≡ key → w ≡ put v i x
  Puts (compares key old new) v n more w = ⊥

  -- The last number of a new node is written, and the node joins. Its first word is the first of the seat's room.
  abbrev pub Makes : (V → ℕ → Content → ℕ → V → Type 0) → Tells (SeatView V)
  Makes told (reads key) v n more w = ⊥
  Makes told (writes key x) v n more w = (len : ℕ) → v.room.start + len ≡ key
      → (k : ℕ) × (c : V) × (w ≡ made v c k len) × told v.client v.room.start (new_content v.room.draft len x) k c
  Makes told (compares key old new) v n more w = ⊥

  -- One more segment is counted. Its keys are the seat's room.
  abbrev pub Grows : ℕ → Tells (SeatView V)
  Grows root (reads key) v n more w = ⊥
  Grows root (writes key new) v n more w = ⊥
  Grows root (compares key old new) v n more w = (n ≢ old → w ≡ v)
      × (n ≡ old → (more.first ≡ first_key root old) × (more.count ≡ keys) × (w ≡ given v more.first more.count))

  -- Two seats meet, and their clients learn of each other.
  abbrev pub Meets : (V → V → V → V → Type 0) → SeatView V → SeatView V → SeatView V → SeatView V → Type 0
  Meets told v w v' w' = (c : V) × (d : V) × (v' ≡ met v c) × (w' ≡ met w d) × told v.client w.client c d
