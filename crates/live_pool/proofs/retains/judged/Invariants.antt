use Rattle.std.proofs.Common.{◌≡◌, ℕ}
use Rattle.live_pool.specs.Retains.{HaveChanged}
use Rattle.live_pool.proofs.retains.judged.Given as goal

abbrev pub invariant-loop : goal.invariant-loop
invariant-loop g l =
    (goal.iterator-loop g).can_next l.iterator' × (goal.iterator-loop g).is_finite l.iterator' × goal.F-IsAlwaysCallable g l.f × (l.guard.book ≡ l.fn.guard.book)
    × ((times : ℕ) × HaveChanged (λ state asked stays next. goal.F-step g state asked.0 asked.1 stays next) times l.fn.pair.0 l.fn.pair.1 l.fn.f l.fn.guard l.value l.f l.guard)
