use Rattle.std.proofs.Common.{◌≡◌, ℕ, ◌+◌, ◌-◌, ◌^◌, ◌≤◌, length}
use Rattle.spec_map.specs.Map.{Pairs}
use Rattle.live_pool.specs.Removals.{HaveTaken}
use Rattle.live_pool.proofs.removals.extract_range.Given as goal

abbrev pub invariant-loop-page : goal.invariant-loop-page
invariant-loop-page g l = record {
  map : l.guard.book ≡ l.pool;
  same : l.guard.book ≡ l.fn.guard.book;
  long : length l.page ≡ 256;
  few : l.count + l.low ≤ l.from;
  ready : g.T.Receiver.ready l.f;
  taken : Pairs ℕ;
  counted : l.count ≡ length taken;
  removed : HaveTaken g.T.Receiver.step l.low (l.last + 1) taken l.from l.fn.f l.fn.guard l.f l.guard;
}

abbrev pub decreases-loop-page : goal.decreases-loop-page
decreases-loop-page g l = 2 ^ 64 - l.from
