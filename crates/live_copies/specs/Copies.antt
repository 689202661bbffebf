-- ALL PAIRS OF ONE MOMENT, copied while others write.
use Rattle.std.specs.Prelude.{ℕ, nat_eq}
use Rattle.spec_map.specs.Map.{Pairs}
use Rattle.share_rule.specs.History.{IsHistory}
use Rattle.live_nodes.specs.Known.{Known}
use Rattle.live_scans.specs.Scans.{HasBegun}

-- ALL PAIRS WERE COPIED by a guard that knew k: they are the map that its history leads to then, after the reader began
pub record HasCopied (k : Known) (pairs : Pairs ℕ) (n : Known) : Type 0 where
  pub seen : HasBegun k n
  pub whole : IsHistory nat_eq n.seen pairs
