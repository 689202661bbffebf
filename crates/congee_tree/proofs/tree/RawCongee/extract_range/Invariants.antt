use Rattle.std.proofs.Common.{◌≡◌, length}
use Rattle.tree_edit.specs.Calls.{Calls}
use Rattle.tree_edit.specs.Tree.{ChargesForNodes}
use Rattle.congee_tree.specs.Bulk.{outside}
use Rattle.congee_tree.proofs.tree.RawCongee.extract_range.Given as goal

abbrev pub ghosts-extract_run : goal.ghosts-extract_run
ghosts-extract_run g a = record { name = a.blank.name; parts = a.blank.parts }

abbrev pub invariant-loop-key : goal.invariant-loop-key
invariant-loop-key g l =
    (outside l.self.pairs l.start l.end ≡ outside l.fn.self.pairs l.start l.end)
    × ChargesForNodes g.A.Allocator.charge l.fn.self l.self
    × Calls g.R.Receiver.step l.start l.end l.fn.f l.fn.self.pairs l.f l.self.pairs
    × g.R.Receiver.ready l.f

abbrev pub decreases-loop-key : goal.decreases-loop-key
decreases-loop-key g l = length l.self.pairs
