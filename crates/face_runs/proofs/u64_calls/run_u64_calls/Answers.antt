use Rattle.std.proofs.Common.{◌≡◌, ◌∷◌, [], ◌++◌, map, take, rules}
use Rattle.std.proofs.lemmas.List.{map-append, take_more}
use Rattle.spec_map.specs.Refusal.{at_new_node}
use Rattle.face_runs.specs.Calls.{by_numbers}
use Rattle.face_runs.specs.U64Calls.{face_call, number_answer}
use Rattle.face_runs.proofs.Steps.{answers_more}
use Rattle.face_runs.proofs.u64_calls.run_u64_calls.Goals as goal

pub loop-call-preserved : goal.loop-call-preserved
loop-call-preserved g c =
    let items : c.push.new.self.items ≡ c.loop-call.replies.items ++ c.make_u64_call.result ∷ [] = rw c.unwrap.ensures at c.push.ensures.items in
    let made = take c.loop-call.call-index c.args.calls.now in
    let more = answers_more (by_numbers (λ key. key) (λ number. number) g.V.Word.number g.V.Word.of_number) at_new_node c.args.map.now.pairs c.loop-call.map.pairs c.make_u64_call.new.map.pairs
    (map face_call made) (face_call c.call-item.result ∷ []) (map number_answer c.loop-call.replies.items) (number_answer c.make_u64_call.result ∷ []) c.loop-call.invariant.run c.make_u64_call.ensures in
    record {
      run = rw (take_more c.args.calls.now c.loop-call.call-index c.call-item.result c.loop-call-test.true, items, map-append, map-append, ← c.call-item.is) more;
      count = search rules;
      room = search rules;
    }
