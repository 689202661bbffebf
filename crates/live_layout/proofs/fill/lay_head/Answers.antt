use Rattle.std.proofs.Common.{ap, ◌≡◌, ◌∙◌, ◌<◌, length, subst, sym}
use Rattle.std.proofs.lemmas.List.{get_or-set_same}
use Rattle.node_base.specs.Form.{form_place}
use Rattle.live_layout.specs.Words.{at}
use Rattle.live_layout.specs.Head.{IsHead}
use Rattle.live_layout.proofs.fill.lay_head.Goals as goal

pub returns-clause-is : goal.returns-clause-is
returns-clause-is g c = λ was prefix h.
    let to = g.E.WriteWords.words c.args.to.now in
    let long = subst (λ s. 0 < length (to s)) (sym c.get-head.ensures.seat.same) c.requires.some.1 in
    let stored : at (to c.set.new.seat) 0 ≡ c.with_form.result = ap (λ x. at x 0) c.set.ensures.is ∙ get_or-set_same (to c.get-head.new.seat) 0 c.with_form.result 0 long in
    let is = c.with_form.ensures was prefix (subst (λ k. IsHead k was prefix) (sym c.get-head.ensures.is) h) in
    subst (λ k. IsHead k (form_place c.args.form) prefix) (sym stored) (subst (λ k. IsHead c.with_form.result k prefix) c.place_of.ensures.is is)
