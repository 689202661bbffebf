use Rattle.word_hazards.proofs.Books.{enters}
use Rattle.word_hazards.proofs.book.enter.Goals as goal

pub enter-requires : goal.enter-requires
enter-requires c = enters
