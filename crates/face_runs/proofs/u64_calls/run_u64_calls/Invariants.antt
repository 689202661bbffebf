use Rattle.std.proofs.Common.{◌≡◌, ◌≤◌, length, map, take, vec_len, vec_capacity}
use Rattle.spec_map.specs.Refusal.{at_new_node}
use Rattle.face_runs.specs.Calls.{by_numbers, AreLegalAnswers}
use Rattle.face_runs.specs.U64Calls.{face_call, number_answer}
use Rattle.face_runs.proofs.u64_calls.run_u64_calls.Given as goal

abbrev pub invariant-loop-call : goal.invariant-loop-call
invariant-loop-call g l = record {
  run : AreLegalAnswers (by_numbers (λ key. key) (λ number. number) g.V.Word.number g.V.Word.of_number) at_new_node l.fn.map.pairs (map face_call (take l.call-index l.calls)) (map number_answer l.replies.items) l.map.pairs;
  count : vec_len l.replies ≡ l.call-index;
  room : length l.calls ≤ vec_capacity l.replies;
}
