use Rattle.std.proofs.Common.{◌≡◌}
use Rattle.test_live_words.proofs.tickets.alone.right.Given as goal

-- the handle is one of this table
abbrev pub invariant-loop-n : goal.invariant-loop-n
invariant-loop-n l = l.handle.book ≡ l.owners
