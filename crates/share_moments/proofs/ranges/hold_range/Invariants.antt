-- The operations that the call has made.
use Rattle.std.proofs.Common.{[], ◌∷◌, take}
use Rattle.share_shards.specs.inner.Steps.{pairs_of}
use Rattle.share_works.specs.Made.{returned}
use Rattle.spec_map.specs.Call.{range, ranged}
use Rattle.spec_map.specs.Map.{between}
use Rattle.share_moments.proofs.ranges.hold_range.Given as goal

abbrev pub ghosts-release_all : goal.ghosts-release_all
ghosts-release_all g a = record { operations = returned (range a.work.now.0 a.work.now.1 a.work.now.2) (ranged (take a.work.now.2 (between (pairs_of a.seat.now.me.0) a.work.now.0 a.work.now.1))) ∷ [] }
