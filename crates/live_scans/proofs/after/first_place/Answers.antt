use Rattle.std.proofs.Common.{arith, ap, subst, sym, ◌≡◌, ℕ, ◌+◌, ◌-◌, ◌*◌, min, Option, Some, None}
use Rattle.live_layout.specs.Words.{lane}
use Rattle.live_layout.specs.ListCells.{count, key}
use Rattle.live_layout.proofs.Seats.{stays-then}
use Rattle.live_layout.specs.inner.Best.{IsBest}
use Rattle.live_scans.specs.inner.Afters.{IsLeast}
use Rattle.live_scans.proofs.after.first_place.Goals as goal

-- the best from the first place on
best_of : (f : ℕ → ℕ) (n least : ℕ) (o : Option (ℕ × ℕ)) → IsLeast f 0 n least o → IsBest f least n o
best_of f n least None h = λ j l. h j (omega arith) l
best_of f n least (Some e) h = (h.1, h.2, h.3, λ j l m. h.4 j (omega arith) l m)

pub loop-w-init : goal.loop-w-init
loop-w-init g c =
    let keys = c.word-keys.result in
    let all = c.min-all.result in
    let m = c.min-all.ensures in
    let least = c.args.least in
    let to = c.min.result in
    let t = c.min.ensures in record {
      seat = c.word-keys.ensures.seat;
      kept = λ d a. (c.word-keys.ensures.read d a).1;
      few = omega (arith, m);
      counted = λ d a few.
          let r = c.word-keys.ensures.read d a in
          let is : count d ≡ lane keys 0 = ap (λ (x : ℕ). lane x 0) r.0 in
          let got = c.lane_of.ensures in
          omega (arith, is, got, few, m);
      best = λ d a few.
          let r = c.word-keys.ensures.read d a in
          let o = c.placed-best.result in
          let h = c.placed-best.ensures d 1 to least (omega arith) (omega (arith, t)) (subst (λ (x : ℕ). IsLeast (lane x) 1 to least c.least_lane.result) (sym r.0) c.least_lane.ensures) in
          let from_is : 8 * 0 + 1 - 1 ≡ 0 = omega arith in
          let to_is : 8 * 0 + to - 1 ≡ min (8 * 1 - 1) all = omega (arith, t) in
          best_of (key d) (min (8 * 1 - 1) all) least o (subst (λ (x : ℕ × ℕ). IsLeast (key d) x.0 x.1 least o) (λ i. (from_is i, to_is i)) h);
    }

pub loop-w-preserved : goal.loop-w-preserved
loop-w-preserved g c =
    let l = c.loop-w.invariant in
    let w = c.loop-w.w in
    let keys = c.word-keys-in-loop-w.result in
    let all = c.min-all.result in
    let least = c.args.least in
    let to = c.min-in-loop-w.result in
    let t = c.min-in-loop-w.ensures in
    let lo = c.loop-w.auto.w in
    let hi = c.loop-w-test.true in record {
      seat = stays-then l.seat c.word-keys-in-loop-w.ensures.seat;
      kept = λ d a. l.kept d (c.word-keys-in-loop-w.ensures.read d a).1;
      few = l.few;
      counted = λ d a few. l.counted d (c.word-keys-in-loop-w.ensures.read d a).1 few;
      best = λ d a few.
          let r = c.word-keys-in-loop-w.ensures.read d a in
          let o = c.placed.result in
          let h = c.placed.ensures d 0 to least (omega (arith, lo)) (omega (arith, t)) (subst (λ (x : ℕ). IsLeast (lane x) 0 to least c.least_lane-found.result) (sym r.0) c.least_lane-found.ensures) in
          let from_is : 8 * w + 0 - 1 ≡ min (8 * w - 1) all = omega (arith, lo, hi) in
          let to_is : 8 * w + to - 1 ≡ min (8 * (w + 1) - 1) all = omega (arith, t, lo, hi) in
          c.better-best.ensures (key d) least (min (8 * w - 1) all) (min (8 * (w + 1) - 1) all) (omega arith) (l.best d r.1 few) (subst (λ (x : ℕ × ℕ). IsLeast (key d) x.0 x.1 least o) (λ i. (from_is i, to_is i)) h);
    }
