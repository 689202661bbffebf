use Rattle.std.proofs.Common.{◌≡◌}
use Rattle.test_live_payloads.proofs.generations.right.Given as goal

-- the log is the table's
abbrev pub invariant-loop-value : goal.invariant-loop-value
invariant-loop-value g l = l.seen.book ≡ l.slots
