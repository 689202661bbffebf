use Rattle.std.proofs.Common.{rules, arith, ◌≡◌, Some, None, sym, ap, subst, ◌∙◌}
use Rattle.spec_map.specs.Map.{lookup}
use Rattle.live_layout.specs.Encodes.{IsBelow}
use Rattle.live_copies.proofs.Told.{named_word, named_absent}
use Rattle.live_copies.proofs.names.has_child.Goals as goal

pub returns-then-name-ne0-clause-is : goal.returns-then-name-ne0-clause-is
returns-then-name-ne0-clause-is g c = λ yes n encodes formed few.
    let words = g.D.WriteWords.words c.args.draft.now in
    let same = ap words c.find.ensures.seat.others in
    let found : c.find.result ≡ Some c.in-Some.word = search rules in
    let is_name : c.slot_below.result ≡ c.args.name = search rules in
    named_word (words c.args.seat.now) n c.args.byte c.in-Some.word c.args.name encodes few (subst (λ z. IsBelow (lookup n.children c.args.byte) z) found (c.find.ensures.is (words c.args.seat.now) n (sym same) encodes formed)) (omega (arith, c.if-name-ne0.true)) (λ s spelt. sym (c.slot_below.ensures s spelt) ∙ is_name)

pub returns-in-None-clause-is : goal.returns-in-None-clause-is
returns-in-None-clause-is g c = λ yes n encodes formed few.
    let words = g.D.WriteWords.words c.args.draft.now in
    let same = ap words c.find.ensures.seat.others in
    let found : c.find.result ≡ None = search rules in
    let zero_is : c.args.name ≡ 0 = search rules in
    named_absent n c.args.byte c.args.name (subst (λ z. IsBelow (lookup n.children c.args.byte) z) found (c.find.ensures.is (words c.args.seat.now) n (sym same) encodes formed)) zero_is
