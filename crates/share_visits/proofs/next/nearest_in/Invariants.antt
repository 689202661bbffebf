-- The nearest of the shards so far.
use Rattle.std.proofs.Common.{◌≡◌, ℕ}
use Rattle.share_parts.specs.Parts.{Ascends}
use Rattle.share_visits.specs.Near.{near_of}
use Rattle.share_visits.specs.inner.Next.{AreNearest}
use Rattle.share_visits.proofs.Nearing.{of_shards}
use Rattle.spec_map.specs.Map.{Pairs}
use Rattle.share_visits.proofs.next.nearest_in.Given as goal

abbrev pub invariant-loop-shard : goal.invariant-loop-shard
invariant-loop-shard l =
    (all : Pairs ℕ) → Ascends all → AreNearest l.shards (near_of l.near) all l.pairs → l.best ≡ of_shards l.shards all l.shard (near_of l.near)
