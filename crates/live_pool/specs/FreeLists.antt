-- Names of nodes that may be used again, and a seat that has met these nodes.
use Rattle.std.specs.Prelude.{◌≡◌, ℕ, List}
use Rattle.word_book.specs.Book.{Book}
use Rattle.live_nodes.specs.Seats.{SeatView, Each}
use Rattle.live_nodes.specs.Views.{View}
use Rattle.live_reads.specs.Paths.{Sights}

-- The seat is one of that map, and has met each node that is named.
abbrev pub IsFreeList : Book → Book → SeatView View → List ℕ → Type 0
IsFreeList b book v names = (book ≡ b) × Each (Sights v) names
