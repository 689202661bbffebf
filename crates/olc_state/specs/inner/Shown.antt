-- WHAT A READER SEES of the machine's inside.
use Rattle.std.specs.Prelude.{ℕ, ◌+◌, ◌^◌, List, [], ◌∷◌, Option, Some, None, if◌then◌else◌, nat_lt, ◌==◌}
use Rattle.spec_map.specs.Map.{put, with_answer}
use Rattle.spec_olc.specs.Calls.{key_of}
use Rattle.spec_olc.specs.Lists.{off}
use Rattle.spec_olc.specs.State.{State, CallState, Cleaning, Lifetime, not_yet, published, retired}
use Rattle.spec_olc.specs.State as state
use Rattle.olc_words.specs.Epoch.{PinsView, entry_at, pin_of}
use Rattle.olc_words.specs.declared.epoch.Life.{Life}
use Rattle.olc_words.specs.declared.epoch.Seat.{Seat}
use Rattle.olc_state.specs.declared.stage.Record.{Record}
use Rattle.olc_state.specs.declared.stage.Stage.{Stage}
use Rattle.olc_state.specs.declared.stage.Stage.TheVariants.{TakeRoot, Read, Check, TakeBelow, CheckAbove, Answer, Confirm, Tail, Scan, Seek, Tidy, Finish}
use Rattle.olc_state.specs.declared.stage.Stored.{Stored}
use Rattle.olc_state.specs.inner.CleanupStages.{held_tidying, made_tidying, spots_seeking, spots_tidying}
use Rattle.olc_state.specs.inner.ScanSpots.{spots_on}
use Rattle.olc_state.specs.inner.Tails.{path_spots, case_spots, cleaning_in, cleaning_of, spots_in, held_in, made_in}
use Rattle.olc_state.specs.inner.World.{World, NodeLifetime, is_private, is_linked, is_detached, is_retired, PlacedNode, placed_node}

abbrev pub lifetime : NodeLifetime → Lifetime
lifetime is_private = not_yet
lifetime is_linked = published
lifetime is_detached = published
lifetime (is_retired stamp) = retired stamp

-- the words that a call remembers of slots
abbrev pub spots_of : Stage → List (ℕ × ℕ)
spots_of TakeRoot = []
spots_of (Read path) = path_spots path
spots_of (Check path) = path_spots path
spots_of (TakeBelow path slot) = path_spots path
spots_of (CheckAbove path spot fits) = put (path_spots path) spot.slot spot.word
spots_of (Answer case) = case_spots case
spots_of (Confirm spot) = (spot.slot, spot.word) ∷ []
spots_of (Tail tail) = spots_in tail
spots_of (Scan course scan) = spots_on scan
spots_of (Seek c seek) = spots_seeking seek
spots_of (Tidy c tidy) = spots_tidying tidy
spots_of Finish = []

-- the least key that a call may still return, the key from which it searches on, and how many pairs
-- it has returned; for a point call the first two are its key
abbrev pub cursor_at : Stage → ℕ → ℕ
cursor_at (Scan course scan) key = course.cursor
cursor_at stage key = key

abbrev pub reach_at : Stage → ℕ → ℕ
reach_at (Scan course scan) key = course.reach
reach_at stage key = key

abbrev pub given_at : Stage → ℕ
given_at (Scan course scan) = course.given
given_at stage = 0

-- the cleanup that it has to make, or makes
abbrev pub cleaning_at : Stage → Option Cleaning
cleaning_at (Tail tail) = cleaning_in tail
cleaning_at (Seek c seek) = Some (cleaning_of c)
cleaning_at (Tidy c tidy) = Some (cleaning_of c)
cleaning_at stage = None

-- the nodes that it holds, and its private ones
abbrev pub held_at : Stage → List ℕ
held_at (Tail tail) = held_in tail
held_at (Tidy c tidy) = held_tidying tidy
held_at _ = []

abbrev pub made_at : Stage → List ℕ
made_at (Tail tail) = made_in tail
made_at (Tidy c tidy) = made_tidying tidy
made_at _ = []

module _ {P : Type 0} where
  abbrev pub shown : Option (PlacedNode P) → Option (state.VersionedNode P)
  shown None = None
  shown (Some a) =
      Some (record { word = a.word; lifetime = lifetime a.lifetime; node = a.node })

  -- the nodes in these slots, of which the first has this number
  abbrev pub nodes_from : List (ℕ × Life) → ℕ → List (Option (Stored P)) → List (ℕ × state.VersionedNode P)
  nodes_from lives slot [] = []
  nodes_from lives slot (n ∷ slots) =
      with_answer (nodes_from lives (slot + 1) slots) slot (shown (placed_node (entry_at lives slot) n))

  -- a call with this pin
  abbrev pub flight : ℕ → Record P → CallState P
  flight pin r = record {
    outline = r.task.outline;
    op = r.task.op;
    pin = pin;
    cursor = cursor_at r.stage (key_of r.task.outline);
    reach = reach_at r.stage (key_of r.task.outline);
    given = given_at r.stage;
    cleaning = cleaning_at r.stage;
    remembered = spots_of r.stage;
    seen = r.task.last;
    asking = r.task.asking;
    progress = r.task.progress;
    held = held_at r.stage;
    made = made_at r.stage;
  }

  abbrev pub flight_in : Option (Record P) → Option ℕ → Option (CallState P)
  flight_in (Some r) (Some pin) = Some (flight pin r)
  flight_in _ _ = None

  -- a number's call in flight in place of another, if the number has 64 bits
  abbrev pub with_flight :
      List (ℕ × CallState P) → ℕ → Option (Record P) → Option ℕ → List (ℕ × CallState P)
  with_flight calls id r pin =
      if nat_lt id (2 ^ 64) then with_answer calls id (flight_in r pin) else calls

  abbrev pub flights_on : PinsView → List (ℕ × Option (Record P)) → List (ℕ × CallState P)
  flights_on pins [] = []
  flights_on pins (e ∷ calls) = with_flight (flights_on pins calls) e.0 e.1 (pin_of pins e.0)

-- the ascending list with the number
abbrev pub with_seat : ℕ → List ℕ → List ℕ
with_seat id [] = id ∷ []
with_seat id (x ∷ xs) =
    if nat_lt x id then x ∷ with_seat id xs else (if x == id then x ∷ xs else id ∷ x ∷ xs)

-- the numbers that are seated
abbrev pub seats_on : List (ℕ × Seat) → List ℕ
seats_on [] = []
seats_on (e ∷ seats) =
    if e.1.seated then with_seat e.0 (seats_on seats) else off e.0 (seats_on seats)

-- THE STATE
abbrev pub state_of : {P : Type 0} → World P → State P
state_of w = record {
  nodes = nodes_from w.pins.slots 0 w.slots;
  root = w.root;
  count = w.pins.count;
  calls = flights_on w.pins w.calls;
  seats = seats_on w.pins.seats;
  entries = w.entries;
  charge = w.charge;
}
