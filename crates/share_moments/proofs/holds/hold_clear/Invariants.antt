-- The operations that the call has made.
use Rattle.share_shards.specs.inner.Steps.{pairs_of}
use Rattle.share_works.specs.Made.{clearing}
use Rattle.share_moments.proofs.holds.hold_clear.Given as goal

abbrev pub ghosts-release_all : goal.ghosts-release_all
ghosts-release_all a = record { operations = clearing (pairs_of a.seat.now.me.0) }
