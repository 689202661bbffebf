-- The pairs that are left to be asked about, and what the closure returned about the others.
use Rattle.std.proofs.Common.{◌-◌, ◌^◌}
use Rattle.congee_tree.specs.Bulk.{next_of}
use Rattle.congee_tree.proofs.BulkLaws.{Asking}
use Rattle.share_tree.proofs.bulk.retain.Given as goal

abbrev pub invariant-loop-key : goal.invariant-loop-key
invariant-loop-key g l =
    goal.F-IsAlwaysCallable g l.f
    × Asking (λ state pair stays next. goal.F-step g state pair.0 pair.1 stays next) l.fn.f l.fn.tree.pairs l.f l.tree.pairs (next_of l.last)

abbrev pub decreases-loop-key : goal.decreases-loop-key
decreases-loop-key g l = 2 ^ 64 - next_of l.last
