-- Where a call has come to on the path down.
use Rattle.std.specs.Prelude.{◌≡◌, ℕ, ◌<◌, ◌≤◌, Option, Some, None}
use Rattle.live_nodes.specs.Seats.{SeatView}
use Rattle.live_nodes.specs.Views.{View}
use Rattle.live_reads.specs.declared.descend.Position.{Position}
use Rattle.live_reads.specs.declared.prefix_match.Mismatch.{Mismatch}
use Rattle.live_reads.specs.declared.descend.End.{End}
use Rattle.live_reads.specs.declared.last_leaf.LastLeaf.{LastLeaf}
use Rattle.live_reads.specs.Paths.{Names, Leaves}

-- A node that has keys which begin like this one, and the node above it, but for the root.
pub record KnowsPosition (v : SeatView View) (key : ℕ) (s : Position) : Type 0 where
  pub named : Names v s.name key s.height
  pub upper : s.height < 8 → Names v s.above key s.level
  pub lower : s.height < 8 → s.height < s.level
  pub level : s.level ≤ 8
  pub low : 1 ≤ s.height
  pub high : s.height ≤ 8

-- below it, there may be a node whose path the key leaves
abbrev pub HasMismatch : SeatView View → ℕ → ℕ → Option Mismatch → Type 0
HasMismatch v key height None = Unit {0}
HasMismatch v key height (Some f) = (2 ≤ height) × Leaves v f.below key f.at f.byte

abbrev pub IsEnd : SeatView View → ℕ → End → Type 0
IsEnd v key e = KnowsPosition v key e.position × HasMismatch v key e.position.height e.mismatch

-- The leaf that was come to last, if there is one.
abbrev pub KnowsLast : SeatView View → LastLeaf → Type 0
KnowsLast v l = 1 ≤ l.position.name → KnowsPosition v l.key l.position × (l.position.height ≡ 1)
