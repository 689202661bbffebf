-- The pairs above the next run are written. `to` falls.
use Rattle.std.proofs.Common.{◌≡◌, ◌+◌, ◌-◌, ◌≤◌, ℕ, length, reverse}
use Rattle.share_visits.specs.Whole.{Contains}
use Rattle.share_visits.specs.Written.{AreWritten}
use Rattle.spec_map.specs.Map.{Pairs, between}
use Rattle.share_visits.proofs.ranges.list_back.Given as goal

abbrev pub invariant-runs : goal.invariant-runs
invariant-runs g l =
    (l.seat.table_id ≡ l.initial.seat.table_id) × (l.seat.me ≡ l.initial.seat.me) × (l.start ≤ l.to) × (l.to ≤ l.last) × (l.written ≤ length l.buffer)
    × ((all : Pairs ℕ) → Contains g.M.MapShard.pairs g.M.MapShard.limit l.lock all l.initial.seat.me.1
    → AreWritten g.M.Pages.entry (reverse (between all (l.to + 1) (l.last + 1))) l.initial.buffer l.written l.buffer × (l.written ≡ length (reverse (between all (l.to + 1) (l.last + 1)))))

abbrev pub decreases-runs : goal.decreases-runs
decreases-runs g l = l.to - l.start
