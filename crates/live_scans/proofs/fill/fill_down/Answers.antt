use Rattle.std.proofs.Common.{rules, ◌≡◌, ℕ, ◌+◌, ◌-◌, take, drop, length, reverse, Option, None, sym, ◌∙◌, subst, arith}
use Rattle.spec_map.specs.Map.{Pairs}
use Rattle.live_layout.proofs.Seats.{stays-then}
use Rattle.live_layout.specs.Page.{AreListed, pairs_of}
use Rattle.live_layout.proofs.PageLaws.{entered_before}
use Rattle.live_scans.specs.inner.Fills.{IsPrevious}
use Rattle.live_scans.proofs.Lists.{listed_more, listed_rest, more_filled}
use Rattle.live_scans.proofs.fill.fill_down.Goals as goal

pub returns-in_default-clause-is : goal.returns-in_default-clause-is
returns-in_default-clause-is g c = λ w n a e f s.
    let l = c.loop-place.invariant in
    let p = c.args.part in
    let none : c.previous_within.result ≡ None = search rules in
    let low = l.low in
    listed_rest n p.base c.loop-place.from p.first (p.last + 1) (reverse (drop c.args.start (take c.loop-place.place (pairs_of g.P.RangeEntry.pair c.loop-place.buffer)))) (omega (arith, low)) (l.is w n (c.previous_within.ensures.kept w a) e f s)
    (subst (λ (o : Option (ℕ × ℕ)). IsPrevious n c.loop-place.from p.first o) none (c.previous_within.ensures.is w n a e f s))

pub returns-then-byte-part-clause-before : goal.returns-then-byte-part-clause-before
returns-then-byte-part-clause-before g c = entered_before g.P.RangeEntry.pair c.loop-place.buffer c.args.start c.loop-place.place c.from_pair.result (omega arith) ∙ c.loop-place.invariant.before

pub returns-then-byte-part-clause-is : goal.returns-then-byte-part-clause-is
returns-then-byte-part-clause-is g c = λ w n a e f s.
    let l = c.loop-place.invariant in
    let p = c.args.part in
    let place = c.loop-place.place in
    let pair = g.P.RangeEntry.pair in
    let x : ℕ × ℕ = (c.in-Some.byte, c.in-Some.word) in
    let high = l.high in
    let entered = more_filled pair c.loop-place.buffer c.args.start place c.from_pair.result (omega arith) (p.base + c.in-Some.byte, c.in-Some.word) c.from_pair.ensures (omega arith) in
    subst (AreListed n p.base c.in-Some.byte (p.last + 1)) (sym entered)
    (listed_more n p.base c.loop-place.from p.first (p.last + 1) (reverse (drop c.args.start (take place (pairs_of pair c.loop-place.buffer)))) x (omega (arith, high)) (l.is w n (c.previous_within.ensures.kept w a) e f s) (c.in-Some.ensures.is w n a e f s))

pub loop-place-preserved : goal.loop-place-preserved
loop-place-preserved g c =
    let l = c.loop-place.invariant in
    let p = c.args.part in
    let place = c.loop-place.place in
    let x : ℕ × ℕ = (c.in-Some.byte, c.in-Some.word) in
    let inside = c.in-Some.ensures.inside in
    let high = l.high in
    let pair = g.P.RangeEntry.pair in
    let entry = c.from_pair.result in
    let entered = more_filled pair c.loop-place.buffer c.args.start place entry (omega arith) (p.base + c.in-Some.byte, c.in-Some.word) c.from_pair.ensures (omega arith) in
    let back : c.in-Some.byte ≡ c.in-Some.byte - 1 + 1 = omega (arith, inside) in record {
      seat = stays-then l.seat c.previous_within.ensures.seat;
      kept = λ w a. l.kept w (c.previous_within.ensures.kept w a);
      low = omega (arith, inside);
      high = omega (arith, high, inside);
      begun = λ b. omega (arith, high, inside);
      before = entered_before pair c.loop-place.buffer c.args.start place entry (omega arith) ∙ l.before;
      is = λ w n a e f s.
          subst (λ (z : ℕ × Pairs ℕ). AreListed n p.base z.0 (p.last + 1) z.1) (λ i. (back i, sym entered i))
          (listed_more n p.base c.loop-place.from p.first (p.last + 1) (reverse (drop c.args.start (take place (pairs_of pair c.loop-place.buffer)))) x (omega (arith, high)) (l.is w n (c.previous_within.ensures.kept w a) e f s) (c.in-Some.ensures.is w n a e f s));
    }

pub returns-clause-is : goal.returns-clause-is
returns-clause-is g c = λ w n a e f s.
    let l = c.loop-place.invariant in
    let p = c.args.part in
    let all : c.loop-place.place ≡ length c.loop-place.buffer = omega arith in
    subst (λ (z : ℕ). AreListed n p.base (c.loop-place.from + 1) (p.last + 1) (reverse (drop c.args.start (take z (pairs_of g.P.RangeEntry.pair c.loop-place.buffer))))) all (l.is w n a e f s)
