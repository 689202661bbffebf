use Rattle.word_hazards.proofs.Books.{reads_same}
use Rattle.word_hazards.proofs.book.number.Goals as goal

pub load-requires-clause-rule : goal.load-requires-clause-rule
load-requires-clause-rule c = reads_same _ _ _
