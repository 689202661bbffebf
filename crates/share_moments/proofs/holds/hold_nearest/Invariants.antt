-- The operations that the call has made.
use Rattle.std.proofs.Common.{[], ◌∷◌}
use Rattle.share_visits.specs.Near.{near_of}
use Rattle.share_works.specs.Made.{returned}
use Rattle.spec_map.specs.Call.{found, nearest}
use Rattle.share_moments.proofs.holds.hold_nearest.Given as goal

abbrev pub ghosts-release_all : goal.ghosts-release_all
ghosts-release_all a = record { operations = returned (nearest (near_of a.work.now.near)) (found a.work.now.pair) ∷ [] }
