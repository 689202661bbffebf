use Rattle.std.proofs.Common.{◌≡◌, ◌+◌, ◌≤◌, List, ◌++◌, length, vec_len, vec_capacity}
use Rattle.spec_map.specs.Map.{Pairs}
use Rattle.spec_map.specs.Refusal.{at_new_node}
use Rattle.face_runs.specs.PayloadCalls.{AreLegalPayloadReplies}
use Rattle.face_runs.specs.declared.payload_calls.PayloadReply.{PayloadReply}
use Rattle.face_runs.proofs.payload_calls.run_payload_calls.Given as goal

abbrev pub invariant-loop-call : goal.invariant-loop-call
invariant-loop-call g l =
    (goal.iterator-loop-call g).can_next l.call-iterator
    × (goal.iterator-loop-call g).is_finite l.call-iterator
    × ((rest : List (PayloadReply g.row.K.Denot g.row.P.Denot)) (last : Pairs g.row.P.Denot)
    → AreLegalPayloadReplies g.K.Word.number g.K.Word.of_number g.P.Payload.alike g.P.Payload.tells_same at_new_node l.map.pairs l.call-iterator.rest.items rest last
    → AreLegalPayloadReplies g.K.Word.number g.K.Word.of_number g.P.Payload.alike g.P.Payload.tells_same at_new_node l.fn.map.pairs l.fn.calls.items (l.replies.items ++ rest) last)
    × (vec_len l.replies + length l.call-iterator.rest.items ≡ length l.fn.calls.items)
    × (length l.fn.calls.items ≤ vec_capacity l.replies)
