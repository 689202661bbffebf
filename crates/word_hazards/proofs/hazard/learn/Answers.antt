use Rattle.word_hazards.proofs.Scans.{learns}
use Rattle.word_hazards.proofs.hazard.learn.Goals as goal

pub load-requires-clause-rule : goal.load-requires-clause-rule
load-requires-clause-rule c = learns _ _ c.args.ticket _ c.requires.lent c.requires.slot
