use Rattle.word_hazards.proofs.Hazards.{validates}
use Rattle.word_hazards.proofs.hazard.validate.Goals as goal

pub load-requires-clause-rule : goal.load-requires-clause-rule
load-requires-clause-rule c = validates _ _ c.requires.own.0 c.args.ticket _ c.requires.own.1 c.requires.announced c.requires.slot
