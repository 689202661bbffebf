use Rattle.std.proofs.Common.{◌≡◌}
use Rattle.test_live_words.proofs.tickets.churn.turns.Given as goal

-- the handle is one of this table
abbrev pub invariant-loop-i : goal.invariant-loop-i
invariant-loop-i l = l.handle.book ≡ l.shared.owners
