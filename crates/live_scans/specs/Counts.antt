-- HOW MANY PAIRS there are, read while others write.
use Rattle.std.specs.Prelude.{◌≡◌, ℕ, ◌^◌, Bool, true, length, Option, is_none}
use Rattle.spec_map.specs.Map.{Pairs}
use Rattle.live_nodes.specs.Known.{Known}
use Rattle.live_scans.specs.Scans.{HasRead, HasBegun, HasNext}

-- THE PAIRS WERE COUNTED by a guard that knew k: all keys were read, each at a moment of its own
pub record HasCounted (k : Known) (count : ℕ) (n : Known) : Type 0 where
  pub seen : HasBegun k n
  pub pairs : Pairs ℕ
  pub read : HasRead true seen.start.seen n.seen 0 (2 ^ 64) pairs
  pub count_is : count ≡ length pairs

-- WHETHER THERE IS NONE was tested by a guard that knew k: it found the first pair, or read all keys
abbrev pub HasTested : Known → Bool → Known → Type 0
HasTested k empty n = (first : Option (ℕ × ℕ)) × (empty ≡ is_none first) × HasNext k 0 first n
