use Rattle.std.proofs.Common.{arith, ap, ◌+◌, ◌-◌, ◌∙◌, subst, ◌≡◌}
use Rattle.live_layout.specs.Words.{at}
use Rattle.live_layout.specs.ListCells.{key, child}
use Rattle.live_layout.specs.inner.Stores.{Stores}
use Rattle.live_layout.proofs.StoreLaws.{take-stored}
use Rattle.live_layout.proofs.list.take.Goals as goal

pub returns-clause-is : goal.returns-clause-is
returns-clause-is g c = λ es h.
    let old = g.D.WriteWords.words c.args.draft.now c.args.seat.now in
    let new = g.D.WriteWords.words c.args.draft.now c.store.new.seat in
    let n = c.count_of-last.result - 1 in
    let one = c.count_of-last.ensures.seat.kept in
    let two = c.key_at-byte.ensures.seat.kept ∙ one in
    let three = c.get-child.ensures.seat.kept ∙ two in
    let byte : c.key_at-byte.result ≡ key old n = c.key_at-byte.ensures.is ∙ ap (λ x. key x n) one in
    let word : c.get-child.result ≡ child c.args.room old n = c.get-child.ensures.is ∙ ap (λ x. at x (c.first_child.result + n)) two ∙ ap (λ x. at old (x + n)) c.first_child.ensures in
    let s = subst (λ x. Stores c.args.room x new c.args.place c.key_at-byte.result c.get-child.result n) three c.store.ensures.is in
    let s = subst (λ x. Stores c.args.room old new c.args.place x c.get-child.result n) byte s in
    let s = subst (λ x. Stores c.args.room old new c.args.place (key old n) x n) word s in
    take-stored c.args.room old new es c.args.place n (omega (arith, c.count_of-last.ensures.is, c.requires.inside)) c.requires.inside.0 s h
