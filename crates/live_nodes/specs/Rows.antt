-- The words of a node as a seat reads and writes them, by what it knows.
use Rattle.std.specs.Prelude.{◌≡◌, ℕ, zero, suc, ◌+◌, ◌-◌, ◌≤◌, List, [], ◌∷◌, ◌++◌, length, take, drop, Option, Some, None}
use Rattle.word_book.specs.Book.{Book, Name}
use Rattle.word_segments.specs.Segments.{AreWords}
use Rattle.live_nodes.specs.Nodes.{Content}
use Rattle.live_nodes.specs.Seats.{Place, Read, read, Hold, Room, room_at, SeatView, seat_view, IsIn, with_draft}
use Rattle.live_nodes.specs.Plays.{hold_of}

-- These are the words of a node: its version word, and behind it its content.
abbrev pub AreOf : Place → Book → List Name → Type 0
AreOf p b words = (length words ≡ p.len + 1) × AreWords p.key b words

-- what was read of the node whose word was taken last
abbrev pub last_saw : List Read → List (ℕ × ℕ)
last_saw [] = []
last_saw (r ∷ rs) = r.saw

-- the reads without that
abbrev pub unread : List Read → List Read
unread [] = []
unread (r ∷ rs) = read r.number r.word [] ∷ rs

-- the n-th hold, the last one first
abbrev pub nth : ℕ → List Hold → Option Hold
nth n [] = None
nth zero (h ∷ hs) = Some h
nth (suc n) (h ∷ hs) = nth n hs

-- what was written of a held node
abbrev pub draft_of : Option Hold → Content
draft_of None = []
draft_of (Some h) = h.draft

-- the holds without that
abbrev pub undrafted : Option Hold → List Hold → List Hold
undrafted None hs = hs
undrafted (Some h) hs = with_draft h.number [] hs

-- the content of a new node that has so many words, with its version word, at the beginning of a room
abbrev pub filled : ℕ → Room → Content
filled n r = take (n - 1) (drop 1 r.draft)

-- the room without that
abbrev pub unfilled : ℕ → Room → Room
unfilled n r = room_at r.start (take 1 r.draft ++ drop n r.draft)

module _ {V : Type 0} where
  -- The words are those of a node, whose version word the seat took last.
  abbrev pub MayRead : List Name → Book → SeatView V → Type 0
  MayRead words b v = (p : Place) × (r : Read) × (rs : List Read)
      × IsIn p v.places × AreOf p b words × (v.reads ≡ r ∷ rs) × (r.number ≡ p.number)

  -- The words are those of the node that the seat locked last, or n before that.
  abbrev pub MayHold : ℕ → List Name → Book → SeatView V → Type 0
  MayHold n words b v = (p : Place) × (h : Hold)
      × IsIn p v.places × AreOf p b words × (nth n v.holds ≡ Some h)
      × (hold_of p.number v.holds ≡ Some h)
      × (length h.draft ≡ p.len)

  -- The words are the first ones of the seat's room.
  abbrev pub MayFill : List Name → Book → SeatView V → Type 0
  MayFill words b v = AreWords v.room.start b words × (1 ≤ length words)
      × (length words ≤ length v.room.draft)

  -- what the seat knows, without what was read or written of these words
  abbrev pub without_reads : SeatView V → SeatView V
  without_reads v = seat_view v.client v.places (unread v.reads) v.holds v.room

  abbrev pub without_draft : ℕ → SeatView V → SeatView V
  without_draft n v = seat_view v.client v.places v.reads (undrafted (nth n v.holds) v.holds) v.room

  abbrev pub without_fill : ℕ → SeatView V → SeatView V
  without_fill n v = seat_view v.client v.places v.reads v.holds (unfilled n v.room)
