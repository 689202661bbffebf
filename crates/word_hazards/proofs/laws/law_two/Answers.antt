use Rattle.word_hazards.proofs.Books.{meets}
use Rattle.word_hazards.proofs.laws.law_two.Goals as goal

pub meet-requires-clause-rule : goal.meet-requires-clause-rule
meet-requires-clause-rule c = meets _ _ _ _
