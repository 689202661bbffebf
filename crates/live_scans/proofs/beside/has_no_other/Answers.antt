use Rattle.std.proofs.Common.{rules, subst, IsTrue, false, ℕ, ◌∙◌}
use Rattle.live_reads.proofs.Finds.{keeps_then}
use Rattle.live_scans.specs.inner.Moments.{HasNone}
use Rattle.live_scans.specs.inner.Nexts.{IsOutside}
use Rattle.live_scans.proofs.Passes.{seen_equal, seen_since}
use Rattle.live_scans.proofs.Composed.{none_since}
use Rattle.live_scans.proofs.beside.has_no_other.Goals as goal

not_true : IsTrue false → ⊥
not_true h = search rules

pub returns-then-not-watch_again : goal.returns-then-not-watch_again
returns-then-not-watch_again g c =
    let t = c.watch_again.ensures in
    record { book = t.book; id = t.id; keeps = t.keeps; seen = seen_equal c.args.seat.now.id c.args.seat.now.view c.watch_again.new.seat.view t.seen; none = λ h. absurd (not_true h) }

pub is_still-requires-clause-next : goal.is_still-requires-clause-next
is_still-requires-clause-next g c = c.watch_again.ensures.next (search rules)

pub returns : goal.returns
returns g c =
    let u = c.args.seat.now.view in
    let v = c.watch_again.new.seat.view in
    let w = c.is_still.new.seat.view in
    let id = c.args.seat.now.id in
    let t = c.watch_again.ensures in
    let e = c.is_still.ensures in
    let first = seen_equal id u v t.seen in
    let Is = IsOutside c.args.up c.args.at c.args.child.0 c.args.lower.node in record {
      book = e.book ∙ t.book;
      id = e.id ∙ t.id;
      keeps = keeps_then u v w t.keeps e.keeps;
      seen = seen_since c.watch_again.new.seat.id id u v w t.id first e.seen;
      none = λ h. none_since id u v w Is first (subst (λ (z : ℕ). HasNone z v w Is) t.id (e.none h));
    }
