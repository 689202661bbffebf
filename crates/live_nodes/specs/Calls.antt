-- What a call asks of its seat, by the seat's view and the key of the word that it is given.
use Rattle.std.specs.Prelude.{◌≡◌, ℕ, ◌+◌, ◌<◌, ◌≤◌, List, length, Some, None}
use mathlib.Core.Option.{some}
use lib.ListN.{get_elem?}
use Rattle.live_nodes.specs.Nodes.{Content, Node, WordFits}
use Rattle.live_nodes.specs.Seats.{Place, Read, Hold, SeatView, IsIn}
use Rattle.live_nodes.specs.Acts as acts
use Rattle.live_nodes.specs.Plays.{read_of, hold_of, new_content}

module _ {V : Type 0} (v : SeatView V) (key : ℕ) where
  -- The word is the version word of a node that the seat knows, which is p.
  abbrev pub IsPlace : Place → Type 0
  IsPlace p = IsIn p v.places × (p.key ≡ key)

  abbrev pub KnowsPlace : Type 0
  KnowsPlace = (p : Place) × IsPlace p

  -- The word is the i-th of the content of a node that the seat knows.
  abbrev pub IsCell : Place → ℕ → Type 0
  IsCell p i = IsIn p v.places × (i < p.len) × (p.key + i + 1 ≡ key)

  abbrev pub KnowsCell : Type 0
  KnowsCell = (p : Place) × (i : ℕ) × IsCell p i

  abbrev pub HoldsCell : Type 0
  HoldsCell = (p : Place) × (i : ℕ) × IsCell p i × ((h : Hold) × (hold_of p.number v.holds ≡ Some h))

  -- The word is in the seat's room.
  abbrev pub InRoom : Type 0
  InRoom = (i : ℕ) × (i < length v.room.draft) × (v.room.start + i ≡ key)

  module _ (P : List Node → List V → Type 0) (id : ℕ) where
    -- The node's word was taken as `word`, which says that it is free, and what was read since is of use.
    abbrev pub MayCheck : (V → ℕ → ℕ → List (ℕ × ℕ) → List Place → V → Type 0) → ℕ → Type 0
    MayCheck told word = (p : Place) × (r : Read) × IsPlace p × (read_of p.number v.reads ≡ Some r) × (r.word ≡ word)
        × acts.Learns P id v.client p.number r.word r.saw v.reads (told v.client p.number r.word r.saw)

    -- No seat holds the node where its word is `word`. It may be locked by the word `new`.
    abbrev pub MayLock : (V → ℕ → Content → V → Type 0) → ℕ → ℕ → Type 0
    MayLock told word new = (p : Place) × IsPlace p × acts.Locks P id v.client p.number word new (told v.client p.number)

    -- The seat holds the node, whose word is `word`. The node may be free again by the word `new`.
    abbrev pub MayFree : (V → ℕ → Content → V → Type 0) → ℕ → ℕ → Type 0
    MayFree told word new = (p : Place) × (h : Hold) × IsPlace p × (hold_of p.number v.holds ≡ Some h) × (h.word ≡ word)
        × acts.Frees P id v.client p.number new h.draft (told v.client p.number h.draft)

    -- The word is the last of a new node, whose first one is the first of the room, and says that it is free or obsolete.
    abbrev pub MayMake : (V → ℕ → Content → ℕ → V → Type 0) → ℕ → Type 0
    MayMake told x = (len : ℕ) × (word : ℕ) × (1 ≤ len) × (len < length v.room.draft) × (v.room.start + len ≡ key)
        × (get_elem? v.room.draft 0 ≡ some word) × WordFits None word
        × (let content = new_content v.room.draft len x in acts.Makes P id v.client v.room.start word content (told v.client v.room.start content))
