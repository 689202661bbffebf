-- The operations that the call has made.
use Rattle.std.proofs.Common.{[], ◌∷◌}
use Rattle.share_works.specs.Made.{returned}
use Rattle.spec_map.specs.Call.{is_empty, tested}
use Rattle.share_moments.proofs.holds.hold_is_empty.Given as goal

abbrev pub ghosts-release_all : goal.ghosts-release_all
ghosts-release_all a = record { operations = returned is_empty (tested a.work.now) ∷ [] }
