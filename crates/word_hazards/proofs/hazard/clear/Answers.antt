use Rattle.std.proofs.Common.{arith}
use Rattle.word_hazards.proofs.Hazards.{announces}
use Rattle.word_hazards.proofs.hazard.clear.Goals as goal

pub store-requires-clause-rule : goal.store-requires-clause-rule
store-requires-clause-rule c = announces _ _ _ _ c.requires.own (omega arith)
