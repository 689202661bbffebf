-- The pairs from the key on are written, and the next of each shard below it are known. The key falls.
use Rattle.std.proofs.Common.{◌≡◌, ◌-◌, ◌≤◌, ◌<◌, ◌++◌, ℕ, List, length, reverse}
use Rattle.share_visits.specs.Whole.{Contains}
use Rattle.share_visits.specs.Written.{AreWritten}
use Rattle.share_visits.specs.inner.Next.{AreNearest}
use Rattle.spec_map.specs.Call.{below}
use Rattle.spec_map.specs.Map.{Pairs, between}
use Rattle.share_visits.proofs.ranges.list_under.Given as goal

abbrev pub invariant-runs : goal.invariant-runs
invariant-runs g l =
    (l.seat.table_id ≡ l.fn.seat.table_id) × (l.seat.me ≡ l.fn.seat.me) × (l.key ≤ l.fn.key) × (l.start < l.key) × (l.written < length l.buffer)
    × ((all : Pairs ℕ) → Contains g.M.MapShard.pairs g.M.MapShard.limit l.lock all l.fn.seat.me.1 → AreNearest l.lock.table.slots (below l.key) all l.next_pairs)
    × ((all : Pairs ℕ) → Contains g.M.MapShard.pairs g.M.MapShard.limit l.lock all l.fn.seat.me.1
    → (done : Pairs ℕ) (before : List g.row.E.Denot) → AreWritten g.M.Pages.entry done before l.fn.written l.fn.buffer → l.fn.written ≡ length done
    → AreWritten g.M.Pages.entry (done ++ reverse (between all l.key l.fn.key)) before l.written l.buffer × (l.written ≡ length (done ++ reverse (between all l.key l.fn.key))))

abbrev pub decreases-runs : goal.decreases-runs
decreases-runs g l = l.key - l.start
