use Rattle.live_owners.specs.Owners.{KnowsMore, RetiresNone, LookedInVain}
use Rattle.live_owners.proofs.map.LiveOwners.get.Given as goal

-- the key was looked up in vain so far
abbrev pub invariant-loop : goal.invariant-loop
invariant-loop l = KnowsMore l.fn.handle l.handle × RetiresNone l.fn.handle.owners l.handle.owners × LookedInVain l.fn.key l.fn.handle.tickets l.handle.tickets
