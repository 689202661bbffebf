-- What a seat knows on the path of a key.
use Rattle.std.specs.Prelude.{◌≡◌, ◌≢◌, ℕ, zero, suc, ◌+◌, ◌-◌, ◌*◌, ◌%◌, ◌<◌, ◌≤◌, Bool, true, false, List, ◌∷◌, Option, Some, None}
use Rattle.spec_node.specs.declared.child.Child.TheVariants.{Node}
use Rattle.word_book.specs.Book.{Book, Name}
use Rattle.live_nodes.specs.Seats.{Place, place, Read, read, SeatView, IsIn}
use Rattle.live_nodes.specs.Rows.{AreOf}
use Rattle.live_layout.specs.Encodes.{IsWord}
use Rattle.live_nodes.specs.Levels.{up, digit, Shape, bytes_above, Spot, name_of, Covers, place_at}
use Rattle.live_nodes.specs.Views.{View, Ask, got}
use Rattle.live_nodes.specs.Tree.{IsOf, Answers}

abbrev pub KnowsRootWord : SeatView View → Type 0
KnowsRootWord v = IsIn (place 0 1 1) v.places

-- This names a node of that height, which had keys that begin like this one when it was met.
pub record Names (v : SeatView View) (name key height : ℕ) : Type 0 where
  pub spot : Spot
  pub met : IsIn spot v.client.met
  pub placed : IsIn (place_at spot) v.places
  pub named : name ≡ name_of spot.shape
  pub high : spot.shape.height ≡ height
  pub covers : Covers spot.shape key

-- This names a node that the seat has met.
pub record Sights (v : SeatView View) (name : ℕ) : Type 0 where
  pub spot : Spot
  pub met : IsIn spot v.client.met
  pub placed : IsIn (place_at spot) v.places
  pub named : name ≡ name_of spot.shape

-- The bytes above that node are the key's down to this height, and then this byte, which the key hasn't there.
pub record Leaves (v : SeatView View) (name key height byte : ℕ) : Type 0 where
  pub sighted : Sights v name
  pub some_height : 1 ≤ sighted.spot.shape.height
  pub lower : sighted.spot.shape.height < height
  pub level : height ≤ 8
  pub top : bytes_above sighted.spot.shape height ≡ up height key
  pub low : byte < 256
  pub byte_is : bytes_above sighted.spot.shape (height - 1) ≡ 256 * up height key + byte
  pub other : byte ≢ digit height key

-- These are its words.
abbrev pub AreNamed : Book → ℕ → List Name → Type 0
AreNamed b name words = (a : Spot) → name ≡ name_of a.shape → AreOf (place_at a) b words

-- The seat has opened that node: it took this word of it last.
pub record HasOpened (v : SeatView View) (b : Book) (words : List Name) (taken : ℕ) (a : Spot) : Type 0 where
  pub are : AreOf (place_at a) b words
  pub saw : List (ℕ × ℕ)
  pub before : List Read
  pub reads : v.reads ≡ read a.number taken saw ∷ before

-- A node of that height is open, which has keys that begin like this one. It is free by this word, and is still what it was
-- met as, if what was read of it is current.
pub record IsOpen (v : SeatView View) (b : Book) (words : List Name) (taken name key height : ℕ) : Type 0 where
  pub names : Names v name key height
  pub opened : HasOpened v b words taken names.spot
  pub free : taken % 4 ≡ 0
  pub sure : (s : Shape) → IsOf names.spot s opened.saw → s ≡ names.spot.shape

-- The seat knows as much, and has the same to itself.
pub record Keeps (v w : SeatView View) : Type 0 where
  pub places : (p : Place) → IsIn p v.places → IsIn p w.places
  pub met : (a : Spot) → IsIn a v.client.met → IsIn a w.client.met
  pub own : w.client.own ≡ v.client.own
  pub holds : w.holds ≡ v.holds
  pub room : w.room ≡ v.room

-- A look-up has its answer, and another call knows no more.
abbrev pub Ended : Bool → Ask → Option ℕ → SeatView View → SeatView View → Type 0
Ended true q found v w = Answers q.caller (got q found) v.client.seen w.client.seen
Ended false q found v w = w.client.seen ≡ v.client.seen

-- What was found under the key's digit in a node of this height: the name of the node below, or the end.
abbrev pub Told : Bool → Ask → ℕ → Option ℕ → SeatView View → SeatView View → Type 0
Told looks q height None v w = Ended looks q None v w
Told looks q zero (Some x) v w = Ended looks q (Some x) v w
Told looks q (suc zero) (Some x) v w = Ended looks q (Some x) v w
Told looks q (suc (suc h)) (Some x) v w = (w.client.seen ≡ v.client.seen) × ((name : ℕ) × IsWord x (Node name) × Sights w name)

abbrev pub Looked : Bool → Ask → ℕ → Option (Option ℕ) → SeatView View → SeatView View → Type 0
Looked looks q height None v w = w.client ≡ v.client
Looked looks q height (Some found) v w = Told looks q height found v w

-- A look-up has its answer, or the seat has seen no more.
abbrev pub Found : Ask → Option (Option ℕ) → SeatView View → SeatView View → Type 0
Found q None v w = w.client.seen ≡ v.client.seen
Found q (Some found) v w = Answers q.caller (got q found) v.client.seen w.client.seen
