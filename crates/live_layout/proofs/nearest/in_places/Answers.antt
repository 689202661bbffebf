use Rattle.std.proofs.Common.{rules, ◌≡◌, ℕ, [], ◌∷◌, None, Option, sym, subst, arith}
use Rattle.live_layout.specs.Order.{IsNearest}
use Rattle.live_layout.specs.inner.Best.{IsMarked}
use Rattle.live_layout.proofs.BestLaws.{places_none, places_some}
use Rattle.live_layout.proofs.nearest.in_places.Goals as goal

pub returns-in_err-byte-clause-is : goal.returns-in_err-byte-clause-is
returns-in_err-byte-clause-is g c = λ w es a4 h.
    let d = c.word-d.ensures.read w a4 in
    let e = c.word-c.ensures.read w d.1 in
    let f = c.word-b.ensures.read w e.1 in
    let i = c.word-a.ensures.read w f.1 in
    let none : c.nearest_mark.result ≡ None = search rules in
    let out : c.from_residual.result ≡ None = search rules in
    let marked = subst (λ (o : Option ℕ). IsMarked c.args.up (c.word-a.result ∷ c.word-b.result ∷ c.word-c.result ∷ c.word-d.result ∷ []) c.args.from o) none c.nearest_mark.ensures in
    subst (λ (o : Option (ℕ × ℕ)). IsNearest c.args.up es c.args.from o) (sym out)
    (places_none w c.word-a.result c.word-b.result c.word-c.result c.word-d.result i.0 f.0 e.0 d.0 es h c.args.up c.args.from marked)

pub returns-clause-is : goal.returns-clause-is
returns-clause-is g c = λ w es a5 h.
    let x = c.word-word.ensures.read w a5 in
    let d = c.word-d.ensures.read w x.1 in
    let e = c.word-c.ensures.read w d.1 in
    let f = c.word-b.ensures.read w e.1 in
    let i = c.word-a.ensures.read w f.1 in
    places_some w c.word-a.result c.word-b.result c.word-c.result c.word-d.result i.0 f.0 e.0 d.0 es h c.args.up c.args.from c.in_ok-byte.byte c.word-word.result (omega arith) x.0 c.in_ok-byte.ensures
