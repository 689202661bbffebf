use Rattle.std.proofs.Common.{arith}
use Rattle.word_hazards.proofs.Slots.{claims}
use Rattle.word_hazards.proofs.slot.claim.Goals as goal

pub compare_exchange-found-requires-clause-rule : goal.compare_exchange-found-requires-clause-rule
compare_exchange-found-requires-clause-rule c = let e = c.requires.slot in claims _ _ _ _ (omega (arith, e)) (omega arith)
