-- THE PAIR BEFORE a key, read while others write.
use Rattle.std.specs.Prelude.{ℕ, false, [], ◌∷◌, Option, Some, None}
use Rattle.live_nodes.specs.Known.{Known}
use Rattle.live_scans.specs.Scans.{HasRead, HasBegun}

-- THE LAST PAIR below a key was found by a guard that knew k, or there was none: the keys behind it were read
abbrev pub HasBefore : Known → ℕ → Option (ℕ × ℕ) → Known → Type 0
HasBefore k high None n = (seen : HasBegun k n) × HasRead false seen.start.seen n.seen 0 high []
HasBefore k high (Some p) n = (seen : HasBegun k n) × HasRead false seen.start.seen n.seen p.0 high (p ∷ [])
