use Rattle.std.proofs.Common.{◌≡◌, suc, ◌<◌, length, take, sym, ap, ◌∷◌, ◌∙◌, drop, ◌+◌, arith, get_or}
use Rattle.std.proofs.lemmas.List.{length-take-le, get_or-take}
use Rattle.std.proofs.Math.Seq.{drop-cons}
use Rattle.live_faces.proofs.typed_congee.iter.Page.pop.Goals as goal

pub returns-clause-some : goal.returns-clause-some
returns-clause-some c =
    let i = c.self.inside in
    let v = c.self.invariant in
    let inside : i.next < i.count = omega (arith, v.0, c.if-self.false) in
    let fits : length (take i.count i.pairs) ≡ i.count = length-take-le i.count i.pairs (omega (arith, v.1, v.2)) in
    let one : suc i.next ≡ i.next + 1 = omega arith in
    sym c.self.view_is
    ∙ drop-cons (take i.count i.pairs) i.next (0, 0) (omega (arith, inside, fits))
    ∙ ap (λ after. get_or (take i.count i.pairs) i.next (0, 0) ∷ drop after (take i.count i.pairs)) one
    ∙ ap (λ pair. pair ∷ drop (i.next + 1) (take i.count i.pairs)) (get_or-take i.count i.pairs i.next (0, 0) inside)
