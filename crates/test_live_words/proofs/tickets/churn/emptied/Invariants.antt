use Rattle.std.proofs.Common.{◌≡◌}
use Rattle.test_live_words.proofs.tickets.churn.emptied.Given as goal

-- the handle is one of this table
abbrev pub invariant-loop-place : goal.invariant-loop-place
invariant-loop-place l = l.handle.book ≡ l.shared.owners
