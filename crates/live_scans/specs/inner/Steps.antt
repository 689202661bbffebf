-- The steps of a page, upwards (true) or downwards.
use Rattle.std.specs.Prelude.{◌≡◌, ◌≢◌, ℕ, ◌+◌, ◌^◌, ◌<◌, ◌≤◌, Bool, true, List, length, take, drop}
use Rattle.spec_map.specs.Map.{Pairs}
use Rattle.live_layout.specs.Order.{IsFrom}
use Rattle.live_nodes.specs.Seats.{SeatView}
use Rattle.live_nodes.specs.Views.{View}
use Rattle.live_scans.specs.inner.Directions.{low_of, high_of, EndsLeaf, ascending}
use Rattle.live_scans.specs.inner.Moments.{Reads}

-- A STEP from a key on has reached another, and written its pairs into the buffer from a place there on. It goes on with a
-- leaf of its own, if it goes on. It has at most the pairs of one leaf.
pub record IsStep (up : Bool) (caller : ℕ) (v w : SeatView View) (key limit start : ℕ) (buffer : List (ℕ × ℕ)) (count last : ℕ) : Type 0 where
  pub order : IsFrom up key last
  pub within : IsFrom up last limit
  pub from : start ≤ count
  pub few : count ≤ length buffer
  pub small : count ≤ start + 256
  pub seam : count < length buffer → last ≢ limit → EndsLeaf up last
  pub reads : Reads up caller v w (low_of up key last) (high_of up key last) (ascending up (drop start (take count buffer)))

-- A PAGE from a key on has reached another: the limit, if the buffer isn't full.
pub record IsPage (up : Bool) (caller : ℕ) (v w : SeatView View) (key limit : ℕ) (buffer : List (ℕ × ℕ)) (count last : ℕ) : Type 0 where
  pub order : IsFrom up key last
  pub within : IsFrom up last limit
  pub few : count ≤ length buffer
  pub whole : count < length buffer → last ≡ limit
  pub reads : Reads up caller v w (low_of up key last) (high_of up key last) (ascending up (take count buffer))

-- THE SEAT READ all keys, and found so many pairs.
pub record Counts (caller : ℕ) (v w : SeatView View) (count : ℕ) : Type 0 where
  pub pairs : Pairs ℕ
  pub reads : Reads true caller v w 0 (2 ^ 64) pairs
  pub count_is : count ≡ length pairs
