-- The pairs below the next run are written. `from` rises.
use Rattle.std.proofs.Common.{◌≡◌, ◌-◌, ◌≤◌, ℕ, length}
use Rattle.share_visits.specs.Whole.{Contains}
use Rattle.share_visits.specs.Written.{AreWritten}
use Rattle.spec_map.specs.Map.{Pairs, between}
use Rattle.share_visits.proofs.ranges.list.Given as goal

abbrev pub invariant-runs : goal.invariant-runs
invariant-runs g l =
    (l.seat.table_id ≡ l.initial.seat.table_id) × (l.seat.me ≡ l.initial.seat.me) × (l.start ≤ l.from) × (l.from ≤ l.last) × (l.written ≤ length l.buffer)
    × ((all : Pairs ℕ) → Contains g.M.MapShard.pairs g.M.MapShard.limit l.lock all l.initial.seat.me.1
    → AreWritten g.M.Pages.entry (between all l.start l.from) l.initial.buffer l.written l.buffer × (l.written ≡ length (between all l.start l.from)))

abbrev pub decreases-runs : goal.decreases-runs
decreases-runs g l = l.last - l.from
