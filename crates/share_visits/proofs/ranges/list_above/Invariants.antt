-- The pairs up to the key are written, and the next of each shard are known. The key rises.
use Rattle.std.proofs.Common.{◌≡◌, ◌+◌, ◌-◌, ◌≤◌, ◌<◌, ◌++◌, ℕ, List, length}
use Rattle.share_visits.specs.Whole.{Contains}
use Rattle.share_visits.specs.Written.{AreWritten}
use Rattle.share_visits.specs.inner.Next.{AreNearest}
use Rattle.spec_map.specs.Call.{above}
use Rattle.spec_map.specs.Map.{Pairs, between}
use Rattle.share_visits.proofs.ranges.list_above.Given as goal

abbrev pub invariant-runs : goal.invariant-runs
invariant-runs g l =
    (l.seat.table_id ≡ l.fn.seat.table_id) × (l.seat.me ≡ l.fn.seat.me) × (l.fn.key ≤ l.key) × (l.key < l.last) × (l.written < length l.buffer)
    × ((all : Pairs ℕ) → Contains g.M.MapShard.pairs g.M.MapShard.limit l.lock all l.fn.seat.me.1 → AreNearest l.lock.table.slots (above l.key) all l.next_pairs)
    × ((all : Pairs ℕ) → Contains g.M.MapShard.pairs g.M.MapShard.limit l.lock all l.fn.seat.me.1
    → (done : Pairs ℕ) (before : List g.row.E.Denot) → AreWritten g.M.Pages.entry done before l.fn.written l.fn.buffer → l.fn.written ≡ length done
    → AreWritten g.M.Pages.entry (done ++ between all (l.fn.key + 1) (l.key + 1)) before l.written l.buffer × (l.written ≡ length (done ++ between all (l.fn.key + 1) (l.key + 1))))

abbrev pub decreases-runs : goal.decreases-runs
decreases-runs g l = l.last - l.key
