use Rattle.std.proofs.Common.{◌≡◌, ◌≤◌, length, take, vec_len, vec_capacity}
use Rattle.congee_table.specs.Calls.{IsRun}
use Rattle.congee_table.proofs.calls.run_table_calls.Given as goal

abbrev pub invariant-loop-call : goal.invariant-loop-call
invariant-loop-call g l = record {
  run : IsRun l.fn.table.rows (take l.call-index l.calls) l.replies.items l.table.rows;
  count : vec_len l.replies ≡ l.call-index;
  room : length l.calls ≤ vec_capacity l.replies;
}
