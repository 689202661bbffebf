use Rattle.std.proofs.Common.{arith, ap, length, ◌+◌, ◌∙◌, subst, sym, ◌≡◌, add-one, refl, None}
use Rattle.spec_map.specs.Map.{put, lookup}
use Rattle.live_layout.specs.Words.{at}
use Rattle.live_layout.specs.ListCells.{key, child, count}
use Rattle.live_layout.specs.PlaceCells.{HasPlaces}
use Rattle.live_layout.proofs.MoveLaws.{entered, entered-new, entered-all}
use Rattle.live_layout.proofs.Seats.{stays-then, same-then}
use Rattle.live_layout.proofs.moves.spread.Goals as goal

pub loop-i-preserved : goal.loop-i-preserved
loop-i-preserved g c =
    let from = g.D.WriteWords.words c.args.from.now c.args.seat.now in
    let to = g.E.WriteWords.words c.args.to.now in
    let i = c.loop-i.i in
    let l = c.loop-i.invariant in
    let same : c.get-child.new.seat ≡ c.loop-i.seat = c.get-child.ensures.seat.same ∙ c.key_at-byte.ensures.seat.same in
    let kept = c.key_at-byte.ensures.seat.kept ∙ l.same in
    let apart = c.requires.apart c.get-child.new.seat c.put.new.seat c.put.ensures.seat.others c.get-child.ensures.seat.still in
    let byte : c.key_at-byte.result ≡ key from i = c.key_at-byte.ensures.is ∙ ap (λ x. key x i) l.same in
    let word : c.get-child.result ≡ child c.args.room from i = c.get-child.ensures.is ∙ ap (λ x. at x (c.first_child.result + i)) kept ∙ ap (λ x. at from (x + i)) c.first_child.ensures in
    record {
      seat = stays-then l.seat (same-then same c.put.ensures.seat);
      from = apart.0;
      same = apart.1 ∙ c.get-child.ensures.seat.kept ∙ kept;
      head = c.put.ensures.others.head ∙ ap (λ s. at (to s) 0) same ∙ l.head;
      long = c.put.ensures.others.long ∙ ap (λ s. length (to s)) same ∙ l.long;
      counts = c.put.ensures.counts ∙ ap (λ s. at (to s) 1 + 1) same ∙ ap (λ x. x + 1) l.counts;
      is = λ es h.
          (let e = entered c.args.room from i in
          let none = subst (λ x. lookup e x ≡ None) (sym byte) (entered-new h i (omega (arith, c.loop-i-test.true, c.count_of-count.ensures.is, ap count (c.requires.apart c.args.seat.now c.clear.new.seat c.clear.ensures.seat.others c.requires.may.0).1))) in
          let next : put e c.key_at-byte.result c.get-child.result ≡ entered c.args.room from (i + 1) = rw (add-one, byte, word) refl in
          subst (HasPlaces (to c.put.new.seat)) next (c.put.ensures.is e (subst (λ s. HasPlaces (to s) e) (sym same) (l.is es h)) none));
    }

pub returns-clause-is : goal.returns-clause-is
returns-clause-is g c = λ es h.
    let from = g.D.WriteWords.words c.args.from.now c.args.seat.now in
    let kept = (c.requires.apart c.args.seat.now c.clear.new.seat c.clear.ensures.seat.others c.requires.may.0).1 in
    let end : c.loop-i.i ≡ count from = omega (arith, c.loop-i-test.false, c.count_of-count.ensures.is, ap count kept) in
    subst (HasPlaces (g.E.WriteWords.words c.args.to.now c.loop-i.seat)) (ap (entered c.args.room from) end ∙ entered-all h) (c.loop-i.invariant.is es h)
