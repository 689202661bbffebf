use Rattle.std.proofs.Common.{arith, ◌≡◌, sym, subst}
use Rattle.std.proofs.lemmas.Grind.{elements}
use Rattle.live_layout.specs.Words.{at}
use Rattle.live_layout.specs.PlaceCells.{Keeps, mark, child_of}
use Rattle.live_layout.proofs.PlaceLaws.{change-places, change-stored}
use Rattle.live_layout.proofs.places.change.Goals as goal

pub returns-clause-is : goal.returns-clause-is
returns-clause-is g c = λ es h some.
    let old = g.D.WriteWords.words c.args.draft.now c.args.seat.now in
    let new = g.D.WriteWords.words c.args.draft.now c.set.new.seat in
    let b = c.args.byte in
    let s = subst (λ x. Keeps old x b) (sym c.set.ensures.is) (change-stored old b c.args.child c.requires.long c.ranges.byte.fits) in
    let marked : mark new b ≡ mark old b = grind (arith, elements) in
    let here : child_of new b ≡ c.args.child = grind (arith, elements) in
    let counts : at new 1 ≡ at old 1 = grind (arith, elements) in
    change-places h new b c.ranges.byte.fits s c.args.child marked here counts some
