-- What a seat takes over from another, and what two seats learn from each other.
use Rattle.std.specs.Prelude.{◌≡◌, ◌++◌}
use Rattle.live_nodes.specs.Seats.{Room, no_room, SeatView, seat_view}
use Rattle.live_nodes.specs.Views.{View}

module _ {V : Type 0} where
  abbrev pub with_room : SeatView V → Room → SeatView V
  with_room v r = seat_view v.client v.places v.reads v.holds r

  -- The first seat's room is the second's from then on, whose own is lost. Neither learns anything else.
  abbrev pub Succeeds : SeatView V → SeatView V → SeatView V → SeatView V → Type 0
  Succeeds v w v' w' = (v' ≡ with_room v no_room) × (w' ≡ with_room w v.room)

-- a seat that has met what another has, too
abbrev pub learned : View → View → View
learned v w = record { seen = v.seen; met = w.met ++ v.met; own = v.own; watched = v.watched }

abbrev pub informed : SeatView View → SeatView View → SeatView View
informed v w = seat_view (learned v.client w.client) (w.places ++ v.places) v.reads v.holds v.room

-- Both seats know where the nodes are that either has met. What they have seen stays.
abbrev pub Informs : SeatView View → SeatView View → SeatView View → SeatView View → Type 0
Informs v w v' w' = (v' ≡ informed v w) × (w' ≡ informed w v)
