use Rattle.std.proofs.Common.{◌≡◌, ◌≤◌, take}
use Rattle.live_pool.specs.Retains.{HaveJudged}
use Rattle.live_pool.proofs.retains.judged_all.Given as goal

abbrev pub invariant-loop-i : goal.invariant-loop-i
invariant-loop-i g l = record {
  callable : goal.F-IsAlwaysCallable g l.f;
  book : l.guard.book ≡ l.fn.guard.book;
  few : l.count ≤ l.i;
  judged : HaveJudged (λ state asked stays next. goal.F-step g state asked.0 asked.1 stays next) (take l.i l.pairs) l.count l.fn.f l.fn.guard l.f l.guard;
}
