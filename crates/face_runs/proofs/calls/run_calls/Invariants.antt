use Rattle.std.proofs.Common.{◌≡◌, ◌≤◌, length, take, vec_len, vec_capacity}
use Rattle.spec_map.specs.Refusal.{at_new_node}
use Rattle.face_runs.specs.Calls.{by_numbers, AreLegalReplies}
use Rattle.face_runs.proofs.calls.run_calls.Given as goal

abbrev pub invariant-loop-call : goal.invariant-loop-call
invariant-loop-call g l = record {
  run : AreLegalReplies (by_numbers g.K.Word.number g.K.Word.of_number g.V.Word.number g.V.Word.of_number) at_new_node l.fn.map.pairs (take l.call-index l.calls) l.replies.items l.map.pairs;
  count : vec_len l.replies ≡ l.call-index;
  room : length l.calls ≤ vec_capacity l.replies;
}
