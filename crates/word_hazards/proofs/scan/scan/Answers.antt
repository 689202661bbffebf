use Rattle.word_hazards.proofs.Scans.{scans}
use Rattle.word_hazards.proofs.scan.scan.Goals as goal

pub load-requires-clause-rule : goal.load-requires-clause-rule
load-requires-clause-rule c = scans _ _ _ c.requires.next
