use Rattle.live_updates.specs.inner.Lookups.{lookup_of}
use Rattle.live_updates.specs.inner.Updates.{update_of}
use Rattle.live_updates.specs.inner.Ends.{without_call, called_with}
use Rattle.live_updates.proofs.computes.present.present_once.Given as goal

abbrev pub ghosts-seek : goal.ghosts-seek
ghosts-seek g a = record { lookup = lookup_of a.seat.now.id a.key (without_call a.seat.now.id a.key) }

abbrev pub ghosts-exchange_here : goal.ghosts-exchange_here
ghosts-exchange_here g a = record { update = update_of a.seat.now.id a.key a.old a.new (called_with a.seat.now.id a.key a.old a.new) }
