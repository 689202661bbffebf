use Rattle.std.proofs.Common.{ap, ◌+◌, ◌/◌, ◌%◌, ◌∙◌, set, subst, sym, ◌≡◌, ◌≢◌, ◌<◌, ℕ}
use Rattle.std.specs.Int.{bit_at}
use Rattle.spec_map.specs.Map.{put}
use Rattle.live_layout.specs.Words.{at}
use Rattle.live_layout.specs.PlaceCells.{HasPlaces}
use Rattle.live_layout.proofs.PlaceLaws.{put-words}
use Rattle.live_layout.proofs.places.put.Goals as goal

pub returns-clause-is : goal.returns-clause-is
returns-clause-is g c = λ es h none.
    let old = g.D.WriteWords.words c.args.draft.now c.args.seat.now in
    let new = g.D.WriteWords.words c.args.draft.now c.set-3.new.seat in
    let b = c.args.byte in
    let m = c.with_bit-marks.result in
    let n = c.get-count.result + 1 in
    let w = c.args.child in
    let same = c.get-count.ensures.seat.kept ∙ c.get.ensures.seat.kept in
    let e : new ≡ set (set (set old (2 + b / 64) m) (6 + b) w) 1 n =
    c.set-3.ensures.is ∙ ap (λ x. set x 1 n) (c.set-2.ensures.is ∙ ap (λ x. set x (6 + b) w) (c.set.ensures.is ∙ ap (λ x. set x (2 + b / 64) m) same)) in
    let kept : (k : ℕ) → k < 64 → k ≢ b % 64 → bit_at m k ≡ bit_at (at old (2 + b / 64)) k = λ k l n. c.with_bit-marks.ensures.others k l n ∙ ap (λ x. bit_at x k) c.get.ensures.is in
    let counted = ap (λ x. x + 1) (c.get-count.ensures.is ∙ ap (λ x. at x 1) c.get.ensures.seat.kept) in
    subst (λ x. HasPlaces x (put es b w)) (sym e) (put-words old es b m w n c.ranges.byte.fits h kept c.with_bit-marks.ensures.here counted none)
