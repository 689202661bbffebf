use Rattle.std.proofs.Common.{rules, ◌≡◌, ℕ, ◌+◌, ◌-◌, take, drop, length, Option, None, sym, ◌∙◌, subst, arith}
use Rattle.live_layout.proofs.Seats.{stays-then}
use Rattle.live_layout.specs.Page.{AreListed, IsNext, pairs_of}
use Rattle.live_layout.proofs.PageLaws.{listed_more, listed_rest, entered_more, entered_before}
use Rattle.live_layout.proofs.page.fill.Goals as goal

pub returns-in_default-clause-is : goal.returns-in_default-clause-is
returns-in_default-clause-is g c = λ w n a e f s.
    let l = c.loop-place.invariant in
    let p = c.args.part in
    let none : c.next_within.result ≡ None = search rules in
    let high = l.high in
    listed_rest n p.base p.first c.loop-place.from p.last (drop c.args.start (take c.loop-place.place (pairs_of g.P.RangeEntry.pair c.loop-place.buffer))) (omega (arith, high)) (l.is w n (c.next_within.ensures.kept w a) e f s)
    (subst (λ (o : Option (ℕ × ℕ)). IsNext n c.loop-place.from p.last o) none (c.next_within.ensures.is w n a e f s))

pub returns-then-byte-part-clause-before : goal.returns-then-byte-part-clause-before
returns-then-byte-part-clause-before g c = entered_before g.P.RangeEntry.pair c.loop-place.buffer c.args.start c.loop-place.place c.from_pair.result (omega arith) ∙ c.loop-place.invariant.before

pub returns-then-byte-part-clause-is : goal.returns-then-byte-part-clause-is
returns-then-byte-part-clause-is g c = λ w n a e f s.
    let l = c.loop-place.invariant in
    let p = c.args.part in
    let place = c.loop-place.place in
    let x : ℕ × ℕ = (c.in-Some.byte, c.in-Some.word) in
    let entered = entered_more g.P.RangeEntry.pair c.loop-place.buffer c.args.start place c.from_pair.result (omega arith) (p.base + c.in-Some.byte, c.in-Some.word) c.from_pair.ensures (omega arith) in
    subst (AreListed n p.base p.first (c.in-Some.byte + 1)) (sym entered)
    (listed_more n p.base p.first c.loop-place.from p.last (drop c.args.start (take place (pairs_of g.P.RangeEntry.pair c.loop-place.buffer))) x l.low (l.is w n (c.next_within.ensures.kept w a) e f s) (c.in-Some.ensures.is w n a e f s))

pub loop-place-preserved : goal.loop-place-preserved
loop-place-preserved g c =
    let l = c.loop-place.invariant in
    let p = c.args.part in
    let place = c.loop-place.place in
    let x : ℕ × ℕ = (c.in-Some.byte, c.in-Some.word) in
    let inside = c.in-Some.ensures.inside in
    let low = l.low in
    let pair = g.P.RangeEntry.pair in
    let entry = c.from_pair.result in
    let entered = entered_more pair c.loop-place.buffer c.args.start place entry (omega arith) (p.base + c.in-Some.byte, c.in-Some.word) c.from_pair.ensures (omega arith) in record {
      seat = stays-then l.seat c.next_within.ensures.seat;
      kept = λ w a. l.kept w (c.next_within.ensures.kept w a);
      low = omega (arith, low, inside);
      high = omega (arith, inside);
      begun = λ b. omega (arith, low, inside);
      before = entered_before pair c.loop-place.buffer c.args.start place entry (omega arith) ∙ l.before;
      is = λ w n a e f s.
          subst (AreListed n p.base p.first (c.in-Some.byte + 1)) (sym entered)
          (listed_more n p.base p.first c.loop-place.from p.last (drop c.args.start (take place (pairs_of pair c.loop-place.buffer))) x l.low (l.is w n (c.next_within.ensures.kept w a) e f s) (c.in-Some.ensures.is w n a e f s));
    }

pub returns-clause-is : goal.returns-clause-is
returns-clause-is g c = λ w n a e f s.
    let l = c.loop-place.invariant in
    let p = c.args.part in
    let begun = l.begun (omega arith) in
    let all : c.loop-place.place ≡ length c.loop-place.buffer = omega arith in
    let back : c.loop-place.from ≡ c.loop-place.from - 1 + 1 = omega (arith, begun) in
    subst (λ (z : ℕ × ℕ). AreListed n p.base p.first z.0 (drop c.args.start (take z.1 (pairs_of g.P.RangeEntry.pair c.loop-place.buffer)))) (λ i. (back i, all i)) (l.is w n a e f s)
