-- The operations that the call has made.
use Rattle.share_visits.specs.Near.{near_of}
use Rattle.share_works.specs.Ends.{popping}
use Rattle.share_moments.proofs.holds.hold_pop.Given as goal

abbrev pub ghosts-release_all : goal.ghosts-release_all
ghosts-release_all a = record { operations = popping (near_of a.work.now.near) a.work.now.pair }
