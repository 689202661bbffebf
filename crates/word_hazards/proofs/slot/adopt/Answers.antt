use Rattle.std.proofs.Common.{arith}
use Rattle.word_hazards.proofs.Slots.{adopts}
use Rattle.word_hazards.proofs.slot.adopt.Goals as goal

pub load-found-requires-clause-rule : goal.load-found-requires-clause-rule
load-found-requires-clause-rule c = let e = c.requires.slot.0 in let few = c.requires.slot.1 in adopts _ _ _ (omega (arith, e)) (omega (arith, e, few))
