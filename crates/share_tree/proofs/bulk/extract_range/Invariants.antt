-- The range's pairs that are left, and the closure's calls with the others.
use Rattle.std.proofs.Common.{length}
use Rattle.congee_tree.proofs.BulkLaws.{Extracting}
use Rattle.share_tree.proofs.bulk.extract_range.Given as goal

abbrev pub invariant-loop : goal.invariant-loop
invariant-loop g l =
    goal.F-IsAlwaysCallable g l.f
    × Extracting (λ state pair next. goal.F-step g state pair.0 pair.1 tt next) l.start l.end l.fn.f l.fn.tree.pairs l.f l.tree.pairs

abbrev pub decreases-loop : goal.decreases-loop
decreases-loop g l = length l.tree.pairs
