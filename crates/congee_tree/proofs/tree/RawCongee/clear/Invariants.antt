use Rattle.std.proofs.Common.{length}
use Rattle.tree_edit.specs.Tree.{ChargesForNodes}
use Rattle.congee_tree.proofs.tree.RawCongee.clear.Given as goal

abbrev pub invariant-pairs : goal.invariant-pairs
invariant-pairs g l = ChargesForNodes g.A.Allocator.charge l.fn.self l.self

abbrev pub decreases-pairs : goal.decreases-pairs
decreases-pairs g l = length l.self.pairs
