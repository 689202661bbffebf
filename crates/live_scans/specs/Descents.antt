-- A PAGE DOWNWARDS, read while others write. It is no snapshot: each key was read at a moment of its own.
use Rattle.std.specs.Prelude.{◌≡◌, ℕ, ◌<◌, ◌≤◌, false, length, reverse}
use Rattle.spec_map.specs.Map.{Pairs}
use Rattle.live_nodes.specs.Known.{Known}
use Rattle.live_scans.specs.Scans.{HasRead, HasBegun}

-- A PAGE of the keys from `low` on and below `high` was read downwards by a guard that knew k, which has room for so many
-- pairs. They descend. The keys from `end` on were read, each at a moment after the reader began. That is all of them, unless
-- the page is full
pub record HasPageDown (k : Known) (low high room : ℕ) (pairs : Pairs ℕ) (n : Known) : Type 0 where
  pub seen : HasBegun k n
  pub end : ℕ
  pub inside : low ≤ end
  pub whole : length pairs < room → end ≡ low
  pub read : HasRead false seen.start.seen n.seen end high (reverse pairs)
