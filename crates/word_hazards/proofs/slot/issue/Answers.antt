use Rattle.std.proofs.Common.{refl, arith}
use Rattle.word_hazards.proofs.Slots.{issues}
use Rattle.word_hazards.proofs.slot.issue.Goals as goal

pub store-requires-clause-rule : goal.store-requires-clause-rule
store-requires-clause-rule c = issues _ _ c.args.owner _ _ c.requires.claimed refl c.requires.slot.0 c.requires.slot.1 _ (omega arith)

pub returns-clause-issued : goal.returns-clause-issued
returns-clause-issued c = (c.store.ensures.view _ _ c.requires.claimed refl).0

pub returns-clause-first : goal.returns-clause-first
returns-clause-first c = (c.store.ensures.view _ _ c.requires.claimed refl).1
