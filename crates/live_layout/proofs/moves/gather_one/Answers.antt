use Rattle.std.proofs.Common.{arith, ap, ◌+◌, ◌%◌, ◌∙◌, subst, sym, ◌≡◌, Some}
use Rattle.std.specs.Int.{bit_at}
use Rattle.spec_map.specs.Map.{between}
use Rattle.live_layout.specs.Words.{at}
use Rattle.live_layout.specs.ListCells.{HasList}
use Rattle.live_layout.specs.PlaceCells.{mark, child_of}
use Rattle.live_layout.proofs.MoveLaws.{between-same, between-next, between-absent, between-fewer}
use Rattle.live_layout.proofs.moves.gather_one.Goals as goal

pub returns-then-not-is_set-clause-is : goal.returns-then-not-is_set-clause-is
returns-then-not-is_set-clause-is g c = λ es h now.
    let b = c.args.byte in
    let from = g.D.WriteWords.words c.args.from.now c.args.seat.now in
    let clear : mark from b ≡ 0 = sym (ap (λ x. bit_at x (b % 64)) c.get-marks.ensures.is) ∙ c.is_set.ensures.clear c.if-not-is_set.true in
    let kept = subst (λ s. HasList c.args.room (g.E.WriteWords.words c.args.to.now s) (between es 0 b)) (sym c.get-marks.ensures.seat.same) now in
    subst (HasList c.args.room (g.E.WriteWords.words c.args.to.now c.get-marks.new.seat)) (between-same es h.ordered b (h.free b c.ranges.byte.fits clear)) kept

pub returns-then-count_of-room-clause-is : goal.returns-then-count_of-room-clause-is
returns-then-count_of-room-clause-is g c = λ es h now.
    let b = c.args.byte in
    let from = g.D.WriteWords.words c.args.from.now c.args.seat.now in
    let marked : mark from b ≡ 1 = sym (ap (λ x. bit_at x (b % 64)) c.get-marks.ensures.is) ∙ c.is_set.ensures.set c.if-not-is_set.false in
    let less = between-fewer es h.ordered b (child_of from b) c.ranges.byte.fits (h.there b c.ranges.byte.fits marked) in
    let here = subst (λ s. HasList c.args.room (g.E.WriteWords.words c.args.to.now s) (between es 0 b)) (sym c.get-marks.ensures.seat.same) now in
    absurd (omega (arith, less, here.counted, h.counted, c.count_of.ensures.is, c.if-count_of-room.true, c.requires.few))

pub returns-clause-is : goal.returns-clause-is
returns-clause-is g c = λ es h now.
    let b = c.args.byte in
    let from = g.D.WriteWords.words c.args.from.now c.args.seat.now in
    let marked : mark from b ≡ 1 = sym (ap (λ x. bit_at x (b % 64)) c.get-marks.ensures.is) ∙ c.is_set.ensures.set c.if-not-is_set.false in
    let same = c.count_of.ensures.seat.same ∙ c.get-marks.ensures.seat.same in
    let child : c.get-child.result ≡ child_of from b = c.get-child.ensures.is ∙ ap (λ s. at (g.D.WriteWords.words c.args.from.now s) (6 + b)) same in
    let some = h.there b c.ranges.byte.fits marked ∙ ap (λ x. Some x) (sym child) in
    let here = subst (λ s. HasList c.args.room (g.E.WriteWords.words c.args.to.now s) (between es 0 b)) (sym (c.get-child.ensures.seat.same ∙ same)) now in
    subst (HasList c.args.room (g.E.WriteWords.words c.args.to.now c.put.new.seat)) (between-next es h.ordered b c.get-child.result c.ranges.byte.fits some) (c.put.ensures.is (between es 0 b) here (between-absent es h.ordered b))
