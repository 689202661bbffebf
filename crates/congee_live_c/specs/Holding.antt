-- What contracts see of what a handle holds.
use Rattle.live_nodes.specs.Known.{Known}

-- what its guard knows
pub record Holding : Type 0 where
  pub guard : Known
