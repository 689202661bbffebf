use Rattle.word_hazards.proofs.Books.{enters, meets}
use Rattle.word_hazards.proofs.laws.law_one.Goals as goal

pub enter-b-requires : goal.enter-b-requires
enter-b-requires c = enters

pub meet-requires-clause-rule : goal.meet-requires-clause-rule
meet-requires-clause-rule c = meets _ _ _ _
