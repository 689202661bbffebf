use Rattle.word_hazards.proofs.Hazards.{leaves}
use Rattle.word_hazards.proofs.hazard.leave.Goals as goal

pub store-requires-clause-rule : goal.store-requires-clause-rule
store-requires-clause-rule c = leaves _ _ _ c.requires.own
