-- The operations that the call has made.
use Rattle.std.proofs.Common.{[], ◌∷◌}
use Rattle.share_works.specs.Made.{returned}
use Rattle.spec_map.specs.Call.{count, counted}
use Rattle.share_moments.proofs.holds.hold_count.Given as goal

abbrev pub ghosts-release_all : goal.ghosts-release_all
ghosts-release_all a = record { operations = returned count (counted a.work.now.pairs) ∷ [] }
