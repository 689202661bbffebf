use Rattle.std.proofs.Common.{None, Some}
use Rattle.live_updates.specs.inner.Lookups.{lookup_of}
use Rattle.live_updates.specs.inner.Updates.{update_of}
use Rattle.live_updates.specs.ClosureEntries.{inserted_with}
use Rattle.live_updates.specs.inner.Ends.{nowhere, stored}
use Rattle.live_updates.proofs.computes.present.add_once.Given as goal

abbrev pub ghosts-seek : goal.ghosts-seek
ghosts-seek g a = record { lookup = lookup_of a.seat.now.id a.key nowhere }

abbrev pub ghosts-update_here : goal.ghosts-update_here
ghosts-update_here g a = record { update = update_of a.seat.now.id a.key a.old a.new (inserted_with a.seat.now.id a.key a.old (stored a.new)) }

abbrev pub ghosts-enter : goal.ghosts-enter
ghosts-enter g a = record { update = update_of a.seat.now.id a.key None (Some a.value) (inserted_with a.seat.now.id a.key None a.value) }
