use Rattle.std.proofs.Common.{Ok, Some}
use Rattle.live_updates.specs.Entries.{swapped}
use Rattle.live_updates.specs.inner.Lookups.{lookup_of, exchange_fails}
use Rattle.live_updates.specs.inner.Updates.{update_of}
use Rattle.live_updates.proofs.calls.exchange_once.Given as goal

abbrev pub ghosts-seek : goal.ghosts-seek
ghosts-seek g a = let x = g.X.Swaps.swap in record { lookup = lookup_of x.caller x.key (exchange_fails x) }

abbrev pub ghosts-exchange_here : goal.ghosts-exchange_here
ghosts-exchange_here g a = let x = g.X.Swaps.swap in record { update = update_of x.caller x.key (Some x.old) x.new (swapped x.caller x.key x.old x.new (Ok x.new)) }
