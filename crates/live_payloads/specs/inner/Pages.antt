-- PAGES in either direction.
use Rattle.std.specs.Prelude.{ℕ, Bool, true, false}
use Rattle.spec_map.specs.Map.{Pairs}
use Rattle.live_nodes.specs.Known.{Known}
use Rattle.live_scans.specs.Scans.{HasPage}
use Rattle.live_scans.specs.Descents.{HasPageDown}

-- a page upwards (true) or downwards of the keys from `low` on and below `high`
abbrev pub HasPageOf : Bool → Known → ℕ → ℕ → ℕ → Pairs ℕ → Known → Type 0
HasPageOf true k low high room pairs n = HasPage k low high room pairs n
HasPageOf false k low high room pairs n = HasPageDown k low high room pairs n
