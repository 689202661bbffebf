use Rattle.std.proofs.Common.{subst}
use Rattle.tree_edit.specs.Tree.{ChargesForNodes}
use Rattle.congee_tree.proofs.tree.RawCongee.clear.Goals as goal

pub pairs-init : goal.pairs-init
pairs-init g c = subst (λ t. ChargesForNodes g.A.Allocator.charge t c.clear_at_once.new.self) c.self.view_is c.clear_at_once.ensures.charge
