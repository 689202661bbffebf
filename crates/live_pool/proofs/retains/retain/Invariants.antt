use Rattle.std.proofs.Common.{◌≡◌, ℕ, ◌+◌, ◌-◌, ◌^◌, ◌≤◌, length}
use Rattle.live_pool.specs.Retains.{HaveGone}
use Rattle.live_pool.proofs.retains.retain.Given as goal

abbrev pub invariant-loop-pool : goal.invariant-loop-pool
invariant-loop-pool g l = record {
  callable : goal.F-IsAlwaysCallable g l.f;
  book : l.guard.book ≡ l.fn.guard.book;
  few : l.count + l.low ≤ l.from;
  long : length l.page ≡ 64;
  parts : ℕ;
  gone : HaveGone (λ state asked stays next. goal.F-step g state asked.0 asked.1 stays next) parts l.low l.from l.count l.fn.f l.fn.guard l.f l.guard;
}

abbrev pub decreases-loop-pool : goal.decreases-loop-pool
decreases-loop-pool g l = 2 ^ 64 - l.from
