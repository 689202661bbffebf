use Rattle.std.proofs.Common.{◌-◌, ◌^◌}
use Rattle.tree_edit.specs.Calls.{Asking}
use Rattle.tree_edit.specs.Tree.{ChargesForNodes}
use Rattle.congee_tree.specs.Bulk.{next_of}
use Rattle.congee_tree.proofs.tree.RawCongee.retain.Given as goal

abbrev pub invariant-loop-key : goal.invariant-loop-key
invariant-loop-key g l =
    g.R.Asker.ready l.f
    × Asking g.R.Asker.step l.fn.f l.fn.self.pairs l.f l.self.pairs (next_of l.last)
    × ChargesForNodes g.A.Allocator.charge l.fn.self l.self

abbrev pub decreases-loop-key : goal.decreases-loop-key
decreases-loop-key g l = 2 ^ 64 - next_of l.last
