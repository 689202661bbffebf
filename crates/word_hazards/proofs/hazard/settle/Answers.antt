use Rattle.word_hazards.proofs.Hazards.{settles}
use Rattle.word_hazards.proofs.hazard.settle.Goals as goal

pub compare_exchange-found-requires-clause-rule : goal.compare_exchange-found-requires-clause-rule
compare_exchange-found-requires-clause-rule c = settles _ _ _ c.requires.hazard
