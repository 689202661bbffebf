use Rattle.std.proofs.Common.{◌≡◌}
use Rattle.live_updates.specs.Closures.{Reaches}
use Rattle.live_faces.proofs.typed_congee.Congee.compute_or_insert.Given as goal

abbrev pub invariant-loop : goal.invariant-loop
invariant-loop g l =
    (goal.iterator-loop g).can_next l.iterator' × (goal.iterator-loop g).is_finite l.iterator' × (l.guard ≡ l.initial.guard)
    × goal.F-IsAlwaysCallable g l.f × Reaches (goal.F-step g) l.initial.f l.f
