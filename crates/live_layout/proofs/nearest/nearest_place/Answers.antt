use Rattle.std.proofs.Common.{ℕ, ◌+◌, ◌%◌, ◌<◌, Option, Some, None, IfSome, sym, ap, ◌∙◌, arith}
use Rattle.live_layout.specs.Words.{lane}
use Rattle.live_layout.specs.ListCells.{key}
use Rattle.live_layout.proofs.Seats.{stays-then}
use Rattle.live_layout.specs.inner.Best.{turned}
use Rattle.live_layout.proofs.nearest.nearest_place.Goals as goal

place_inside : (o : Option (ℕ × ℕ)) (n m : ℕ) → IfSome o (λ e. e.1 < n) → (n < m + 1) → IfSome o (λ e. e.1 < m)
place_inside None n m h l = tt
place_inside (Some e) n m h l = omega (arith, h, l)

pub loop-i-preserved : goal.loop-i-preserved
loop-i-preserved g c =
    let l = c.loop-i.invariant in
    let k = c.keys_at-keys.ensures in
    let i = c.loop-i.i in record {
      seat = stays-then l.seat k.seat;
      kept = λ w a. l.kept w (k.kept w a);
      few = l.few;
      counted = λ w a. l.counted w (k.kept w a);
      word = λ w a. k.is w a (l.word w (k.kept w a));
      inside = c.nearer-best.ensures.inside l.inside;
      best = λ w a few.
          let at_w = k.is w a (l.word w (k.kept w a)) in
          c.nearer-best.ensures.is (λ j. turned c.args.up (key w j)) (sym (c.turn-byte.ensures ∙ ap (turned c.args.up) (c.lane_of-in-loop-i.ensures ∙ ap (λ (x : ℕ). lane x ((i + 1) % 8)) (sym at_w)))) (l.best w (k.kept w a) few);
    }

pub returns-clause-inside : goal.returns-clause-inside
returns-clause-inside g c =
    let l = c.loop-i.invariant in
    place_inside c.loop-i.best c.loop-i.i c.args.room l.inside (omega arith)
