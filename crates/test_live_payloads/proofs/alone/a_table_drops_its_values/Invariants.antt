use Rattle.std.proofs.Common.{◌≡◌}
use Rattle.test_live_payloads.proofs.alone.a_table_drops_its_values.Given as goal

-- the log is the table's
abbrev pub invariant-loop : goal.invariant-loop
invariant-loop g l = l.seen.book ≡ l.slots
