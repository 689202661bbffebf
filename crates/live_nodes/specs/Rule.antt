-- The rule: the words are those of the nodes, of the seats' rooms and the count of segments, and each seat's view is true.
-- P is the client's own rule.
use Rattle.std.specs.Prelude.{◌≡◌, ℕ, ◌+◌, ◌*◌, ◌<◌, ◌≤◌, List, length, map, Some}
use mathlib.Core.Option.{some}
use lib.ListN.{get_elem?}
use Rattle.word_book.specs.Book.{State}
use Rattle.word_segments.specs.Segments.{keys}
use Rattle.live_nodes.specs.Nodes.{Content, Node, node, Owner, counts, in_room, IsNode}
use Rattle.live_nodes.specs.Seats.{Place, place, Read, Hold, Room, SeatView, Each, Agree}

-- The first key of the segment j. Before all segments are the count, and the root's words.
abbrev pub first_key : ℕ → ℕ → ℕ
first_key root j = root + 2 + keys * j

abbrev pub PlaceFits : List Node → Place → Type 0
PlaceFits ns p =
    (p.number < length ns) × ((node ns p.number).place ≡ p.key) × (length (node ns p.number).content ≡ p.len)

-- A word that says the node is free is never there again once it has changed. While it is there, what was read is current.
abbrev pub ReadFits : List Node → Read → Type 0
ReadFits ns r = (r.number < length ns) × ((m : ℕ) → r.word ≡ 4 * m
    → (r.word ≤ (node ns r.number).word) × (r.word ≡ (node ns r.number).word → Agree (node ns r.number).content r.saw))

abbrev pub HoldFits : List Node → (ℕ → Content) → ℕ → Hold → Type 0
HoldFits ns drafts id h = (h.number < length ns) × ((node ns h.number).holder ≡ Some id)
    × (drafts h.number ≡ h.draft) × ((node ns h.number).word ≡ h.word)

pub record Knows {V : Type 0} (ns : List Node) (drafts : ℕ → Content) (id : ℕ) (v : SeatView V) : Type 0 where
  pub places : Each (PlaceFits ns) v.places
  pub reads : Each (ReadFits ns) v.reads
  pub holds : Each (HoldFits ns drafts id) v.holds

abbrev pub RoomFits : (ℕ → Owner) → List ℕ → ℕ → Room → Type 0
RoomFits owner words id r = (i n : ℕ) → get_elem? r.draft i ≡ some n
    → (get_elem? words (r.start + i) ≡ some n) × (owner (r.start + i) ≡ in_room id)

abbrev pub client : {V : Type 0} → SeatView V → V
client v = v.client

pub record IsLive {V : Type 0} (root : ℕ) (P : List Node → List V → Type 0) (s : State (SeatView V)) : Type 0 where
  pub nodes : List Node
  pub drafts : ℕ → Content
  pub owner : ℕ → Owner
  pub counted : owner 0 ≡ counts
  pub long : (n : ℕ) → get_elem? s.words 0 ≡ some n → length s.words ≡ first_key root n
  pub rooted : PlaceFits nodes (place 0 1 root)
  pub each_node : (k : ℕ) → k < length nodes → IsNode owner k (node nodes k) (drafts k) s.words
  pub each_seat : (id : ℕ) (v : SeatView V) → get_elem? s.views id ≡ some v → Knows nodes drafts id v
  pub each_room : (id : ℕ) (v : SeatView V) → get_elem? s.views id ≡ some v → RoomFits owner s.words id v.room
  pub agreed : P nodes (map client s.views)
