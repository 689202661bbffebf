-- What a seat has seen once the root word was read.
use Rattle.std.specs.Prelude.{◌≡◌, ℕ, Option, Some, None}
use Rattle.live_nodes.specs.Seats.{SeatView}
use Rattle.live_nodes.specs.Views.{View}
use Rattle.live_nodes.specs.Tree.{Answers}
use Rattle.live_nodes.specs.Begun.{began}
use Rattle.live_nodes.specs.Roots.{History}

-- The root was found, and what is seen then was picked, or no more is seen.
abbrev pub SeesRoot : (History → History → Type 0) → SeatView View → SeatView View → Option ℕ → Type 0
SeesRoot sees v w None = w.client.seen ≡ v.client.seen
SeesRoot sees v w (Some name) = sees v.client.seen w.client.seen

-- A reader began, and its entry is the last that is seen.
abbrev pub Begins : ℕ → History → History → Type 0
Begins caller old new = Answers caller (began caller) old new
