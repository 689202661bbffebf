use Rattle.std.proofs.Common.{◌≡◌, ◌∷◌, [], ◌++◌, take, rules}
use Rattle.std.proofs.lemmas.List.{take_more, take_all}
use Rattle.spec_map.specs.Refusal.{at_new_node}
use Rattle.face_runs.specs.Calls.{by_numbers}
use Rattle.face_runs.proofs.Steps.{run_more, run_of_none}
use Rattle.face_runs.proofs.calls.run_calls.Goals as goal

pub loop-call-init : goal.loop-call-init
loop-call-init g c = record {
  run = run_of_none (by_numbers g.K.Word.number g.K.Word.of_number g.V.Word.number g.V.Word.of_number) at_new_node c.args.map.now.pairs c.in_ok-replies.replies.items c.in_ok-replies.ensures.items;
  count = search rules;
  room = search rules;
}

pub loop-call-preserved : goal.loop-call-preserved
loop-call-preserved g c =
    let items : c.push.new.self.items ≡ c.loop-call.replies.items ++ c.make_call.result ∷ [] = rw c.unwrap.ensures at c.push.ensures.items in
    let more = run_more (by_numbers g.K.Word.number g.K.Word.of_number g.V.Word.number g.V.Word.of_number) at_new_node c.args.map.now.pairs c.loop-call.map.pairs c.make_call.new.map.pairs
    (take c.loop-call.call-index c.args.calls.now) c.loop-call.replies.items c.call-item.result c.make_call.result c.loop-call.invariant.run c.make_call.ensures in
    record {
      run = rw (take_more c.args.calls.now c.loop-call.call-index c.call-item.result c.loop-call-test.true, items, ← c.call-item.is) more;
      count = search rules;
      room = search rules;
    }

pub returns-clause-run : goal.returns-clause-run
returns-clause-run g c =
    let all : take c.loop-call.call-index c.args.calls.now ≡ c.args.calls.now = take_all c.loop-call.call-index c.args.calls.now (search rules) in
    rw all at c.loop-call.invariant.run
