use Rattle.std.proofs.Common.{arith}
use Rattle.word_hazards.proofs.Slots.{retires}
use Rattle.word_hazards.proofs.slot.retire.Goals as goal

pub compare_exchange-found-requires-clause-rule : goal.compare_exchange-found-requires-clause-rule
compare_exchange-found-requires-clause-rule c = let e = c.requires.slot in let p = c.present-present.ensures.state in retires _ _ _ (omega (arith, e)) (omega (arith, e)) _ (omega (arith, p.0))
