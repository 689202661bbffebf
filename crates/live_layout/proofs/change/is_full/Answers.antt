use Rattle.std.proofs.Common.{ap, arith, length, ◌≡◌, ◌∙◌, sym, Some, None}
use Rattle.std.proofs.lemmas.Bool.Decides.{nat_tests}
use Rattle.node_base.specs.Form.{limit}
use Rattle.live_layout.specs.Words.{at}
use Rattle.live_layout.specs.ListCells.{count}
use Rattle.live_layout.specs.Encodes.{counted, most}
use Rattle.live_layout.proofs.StandLaws.{encodes-counted}
use Rattle.live_layout.proofs.change.is_full.Goals as goal

pub returns-in-Some-clause-full : goal.returns-in-Some-clause-full
returns-in-Some-clause-full g c = λ n e f.
    let old = g.D.WriteWords.words c.args.draft.now c.args.seat.now in
    let o : limit c.args.form ≡ Some c.in-Some.room = sym c.room_of.ensures.is ∙ c.in-Some.is in
    let many : length n.children ≡ count old = encodes-counted old n e ∙ ap (λ k. counted (limit k) old) f ∙ ap (λ k. counted k old) o in
    let full : most (limit c.args.form) ≡ c.in-Some.room = ap most o in
    (λ t. (let a = c.is_full.ensures.is.0 t in omega (arith, a, many, full)), λ l. c.is_full.ensures.is.1 (omega (arith, l, many, full)))

pub returns-in-None-clause-full : goal.returns-in-None-clause-full
returns-in-None-clause-full g c = λ n e f.
    let old = g.D.WriteWords.words c.args.draft.now c.args.seat.now in
    let o : limit c.args.form ≡ None = sym c.room_of.ensures.is ∙ c.in-None.is in
    let many : length n.children ≡ at old 1 = encodes-counted old n e ∙ ap (λ k. counted (limit k) old) f ∙ ap (λ k. counted k old) o in
    let full : most (limit c.args.form) ≡ 256 = ap most o in
    let is = c.get.ensures.is in
    (λ t. grind (arith, nat_tests, many, full, is, t), λ l. grind (arith, nat_tests, many, full, is, l))
