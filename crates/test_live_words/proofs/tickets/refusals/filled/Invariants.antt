use Rattle.std.proofs.Common.{◌≡◌}
use Rattle.test_live_words.proofs.tickets.refusals.filled.Given as goal

-- the handle is one of this table
abbrev pub invariant-loop-owner : goal.invariant-loop-owner
invariant-loop-owner l = l.handle.book ≡ l.owners
