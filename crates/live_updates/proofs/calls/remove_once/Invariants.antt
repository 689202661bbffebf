use Rattle.live_updates.specs.Entries.{removed}
use Rattle.live_updates.specs.inner.Lookups.{lookup_of, removal}
use Rattle.live_updates.specs.inner.Updates.{update_of}
use Rattle.live_updates.proofs.calls.remove_once.Given as goal

abbrev pub ghosts-seek : goal.ghosts-seek
ghosts-seek a = record { lookup = lookup_of a.seat.now.id a.key (removal a.seat.now.id a.key) }

abbrev pub ghosts-exchange_here : goal.ghosts-exchange_here
ghosts-exchange_here a = record { update = update_of a.seat.now.id a.key a.old a.new (removed a.seat.now.id a.key a.old) }
