use Rattle.std.proofs.Common.{◌≡◌}
use Rattle.test_live_words.proofs.tickets.churn.counted.Given as goal

-- the handle is one of this table
abbrev pub invariant-loop : goal.invariant-loop
invariant-loop l = l.handle.book ≡ l.shared.owners
