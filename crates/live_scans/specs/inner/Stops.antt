-- Where a reader's path begins and ends.
use Rattle.std.specs.Prelude.{◌≡◌, ℕ, ◌≤◌, List, Option, Some, None, IfSome}
use Rattle.word_book.specs.Book.{Book, Name}
use Rattle.live_nodes.specs.Nodes.{Content}
use Rattle.live_nodes.specs.Seats.{SeatView, Agree}
use Rattle.live_nodes.specs.Rows.{AreOf}
use Rattle.live_layout.specs.Words as cells
use Rattle.live_nodes.specs.Levels.{Shape, place_at}
use Rattle.live_nodes.specs.Tree.{IsOf}
use Rattle.live_nodes.specs.Views.{View}
use Rattle.live_reads.specs.Paths.{Names}
use Rattle.live_reads.specs.Roots.{Begins}
use Rattle.live_scans.specs.declared.position.Position.{Position}
use Rattle.live_scans.specs.declared.position.PathNode.{PathNode}
use Rattle.live_scans.specs.declared.position.Trail.{Trail}

-- an inner node that the seat has met, and a key that begins like it
abbrev pub IsPosition : SeatView View → Position → Type 0
IsPosition v s = (2 ≤ s.height) × (s.height ≤ 8) × Names v s.name s.key s.height

-- These are the words of a node that the seat has met. Where its head is this one, it is what it was met as.
pub record HasWords (v : SeatView View) (b : Book) (s : Position) (words : List Name) (head : ℕ) : Type 0 where
  pub names : Names v s.name s.key s.height
  pub are : AreOf (place_at names.spot) b words
  pub sure : (saw : List (ℕ × ℕ)) (shape : Shape) → ((c : Content) → Agree c saw → cells.at c 0 ≡ head) → IsOf names.spot shape saw → shape ≡ names.spot.shape

abbrev pub IsPathNode : SeatView View → Book → PathNode → Type 0
IsPathNode v b s = IsPosition v s.at × IfSome s.known (λ k. HasWords v b s.at k.words.now k.head)

-- both of a trail's nodes
abbrev pub IsTrail : SeatView View → Book → Trail → Type 0
IsTrail v b t = IsPathNode v b t.low × IsPathNode v b t.high

-- a leaf that the seat has met, and a key that begins like it
abbrev pub IsLeafAt : SeatView View → Position → Type 0
IsLeafAt v s = Names v s.name s.key 1

-- A reader began, and is at the root. Or it has seen no more.
abbrev pub Starts : ℕ → SeatView View → SeatView View → ℕ → Option Position → Type 0
Starts caller v w key None = w.client.seen ≡ v.client.seen
Starts caller v w key (Some s) = Begins caller v.client.seen w.client.seen × (s.key ≡ key) × (s.height ≡ 8) × IsPosition w s
