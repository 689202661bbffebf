use Rattle.std.proofs.Common.{arith}
use Rattle.word_hazards.proofs.Scans.{peeks}
use Rattle.word_hazards.proofs.scan.peek.Goals as goal

pub load-requires-clause-rule : goal.load-requires-clause-rule
load-requires-clause-rule c = let e = c.requires.slot in peeks _ _ _ (omega (arith, e))
