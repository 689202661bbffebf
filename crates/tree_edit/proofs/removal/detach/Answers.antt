use Rattle.tree_edit.proofs.RemovalLaws.{empty_at}
use Rattle.tree_edit.proofs.removal.detach.Goals as goal

pub take_slot-requires-clause-empty : goal.take_slot-requires-clause-empty
take_slot-requires-clause-empty g c = empty_at _ _ c.requires.child.here c.requires.empty
