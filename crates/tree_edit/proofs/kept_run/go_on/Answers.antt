use Rattle.std.proofs.Common.{arith, refl}
use Rattle.tree_edit.proofs.RunLaws.{along, none_beside}
use Rattle.tree_edit.proofs.kept_run.go_on.Goals as goal

pub returns-then-not-stays-clause-next : goal.returns-then-not-stays-clause-next
returns-then-not-stays-clause-next g c = λ k from below. c.take_beside.ensures.next k (omega (arith, from)) below

pub returns-else-not-stays-clause-next : goal.returns-else-not-stays-clause-next
returns-else-not-stays-clause-next g c = none_beside _ _ _ _ _ _ _ c.requires.at _ c.requires.stop c.args.next (omega arith) c.requires.next

pub returns-else-not-stays-clause-at : goal.returns-else-not-stays-clause-at
returns-else-not-stays-clause-at g c = along _ _ _ _ _ _ _ c.requires.at _ c.requires.stop c.args.next (omega arith) c.requires.present
