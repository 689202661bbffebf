-- The operations that the call has made.
use Rattle.std.proofs.Common.{[], ◌∷◌, length}
use Rattle.share_shards.specs.inner.Steps.{pairs_of}
use Rattle.share_works.specs.Made.{returned}
use Rattle.spec_map.specs.Call.{count, counted}
use Rattle.share_moments.proofs.holds.hold_charged.Given as goal

abbrev pub ghosts-release_all : goal.ghosts-release_all
ghosts-release_all a = record { operations = returned count (counted (length (pairs_of a.seat.now.me.0))) ∷ [] }
