-- What a caller knows between two calls, and what a call does.
use Rattle.std.specs.Prelude.{◌≡◌, ℕ, [], Option, Result, Ok, Err}
use Rattle.word_book.specs.Book.{Book}
use Rattle.live_nodes.specs.Seats.{SeatView}
use Rattle.live_nodes.specs.Views.{View, Ask, inserted}
use Rattle.live_nodes.specs.Known.{Known}
use Rattle.live_nodes.specs.Tree.{Answers}
use Rattle.live_reads.specs.Paths.{KnowsRootWord}
use Rattle.live_reads.specs.Positions.{KnowsLast}
use Rattle.live_growth.specs.Rooms.{HasRoom}
use Rattle.live_growth.specs.FreeNodes.{HasFreeNodes}
use Rattle.live_growth.specs.declared.link.Room.{Room}
use Rattle.live_growth.specs.declared.map.Refusal.{Refusal}

-- what a caller knows, by its seat
abbrev pub known_of : Book → ℕ → SeatView View → Known
known_of b id v = record { book = b; caller = id; seen = v.client.seen }

-- A seat between two calls: it has nothing to itself but some room, and knows nodes that may be used again, and the leaf that it
-- has come to last.
pub record IsReady (v : SeatView View) (room : Room) : Type 0 where
  pub root_word : KnowsRootWord v
  pub own : v.client.own ≡ []
  pub holds : v.holds ≡ []
  pub words : HasRoom v room.start room.left
  pub spare : HasFreeNodes v room.spare
  pub last : KnowsLast v room.last

-- An insertion is done, or the seat has seen no more.
abbrev pub Inserts : Ask → Result (Option ℕ) Refusal → SeatView View → SeatView View → Type 0
Inserts q (Err refused) v w = w.client.seen ≡ v.client.seen
Inserts q (Ok found) v w = Answers q.caller (inserted q found) v.client.seen w.client.seen
