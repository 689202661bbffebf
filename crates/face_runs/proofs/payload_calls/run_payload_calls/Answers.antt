use Rattle.std.proofs.Common.{◌≡◌, List, ◌∷◌, [], refl, ◌++◌, length, ap, append_assoc, append-nil, rules, arith}
use Rattle.face_runs.proofs.PayloadSteps.{run_first, run_of_none}
use Rattle.face_runs.proofs.payload_calls.run_payload_calls.Goals as goal

pub loop-call-preserved : goal.loop-call-preserved
loop-call-preserved g c =
    let items : c.push.new.self.items ≡ c.loop-call.replies.items ++ c.make_payload_call.result ∷ [] = rw c.unwrap.ensures at c.push.ensures.items in
    let steps : c.loop-call.call-iterator.rest.items ≡ c.in-Some.call ∷ c.next.new.self.rest.items = c.in-Some.ensures.steps.0 in (
      tt,
      tt,
      λ rest last run.
          let first = run_first g.K.Word.number g.K.Word.of_number g.P.Payload.alike g.P.Payload.tells_same c.loop-call.map.pairs c.make_payload_call.new.map.pairs last c.in-Some.call c.next.new.self.rest.items c.make_payload_call.result rest c.make_payload_call.ensures run in
          let whole = c.loop-call.invariant.2 (c.make_payload_call.result ∷ rest) last (rw steps first) in
          rw (items, append_assoc c.loop-call.replies.items (c.make_payload_call.result ∷ []) rest) whole,
      (let l = ap length steps in search rules),
      search rules,
    )

empty : {X : Type 0} (xs : List X) → length xs ≡ 0 → xs ≡ []
empty [] none = refl
empty (x ∷ xs) none = absurd (omega arith)

pub returns-clause-run : goal.returns-clause-run
returns-clause-run g c =
    let over = c.in-None.ensures.steps.0 in
    let zero : length c.loop-call.call-iterator.rest.items ≡ 0 = search rules in
    let none = empty c.loop-call.call-iterator.rest.items zero in
    let whole = c.loop-call.invariant.2 [] c.loop-call.map.pairs (rw none (run_of_none g.K.Word.number g.K.Word.of_number g.P.Payload.alike g.P.Payload.tells_same c.loop-call.map.pairs)) in
    rw append-nil at whole
