-- A child of a node, as a reader finds it.
use Rattle.std.specs.Prelude.{◌≡◌, ℕ, ◌<◌, ◌≤◌, Option, Some, None}
use Rattle.live_nodes.specs.Seats.{SeatView}
use Rattle.live_nodes.specs.Levels.{up, digit}
use Rattle.live_nodes.specs.Views.{View}
use Rattle.live_reads.specs.Paths.{Names}
use Rattle.live_copies.specs.declared.children.Child.{Child}

-- A child of a node of this height, whose keys begin like this one.
pub record IsChild (w : SeatView View) (key height : ℕ) (c : Child) : Type 0 where
  pub names : Names w c.name c.key c.height
  pub low : 1 ≤ c.height
  pub lower : c.height < height
  pub named : 1 ≤ c.name
  pub upper : up height c.key ≡ up height key
  pub byte : digit height c.key ≡ c.byte

-- One from a byte on was found, or none, or a writer came in between.
abbrev pub IsFound : SeatView View → ℕ → ℕ → ℕ → Option (Option Child) → Type 0
IsFound w key height from None = Unit {0}
IsFound w key height from (Some None) = Unit {0}
IsFound w key height from (Some (Some c)) = IsChild w key height c × (from ≤ c.byte)
