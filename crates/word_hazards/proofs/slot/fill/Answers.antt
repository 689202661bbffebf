use Rattle.word_hazards.proofs.Slots.{fills}
use Rattle.word_hazards.proofs.slot.fill.Goals as goal

pub store-requires-clause-rule : goal.store-requires-clause-rule
store-requires-clause-rule c = fills _ _ _ _ c.requires.claimed.0 c.requires.claimed.1 c.requires.claimed.2
