use Rattle.std.proofs.Common.{refl}
use Rattle.word_hazards.proofs.Books.{begins}
use Rattle.word_hazards.proofs.book.open.Goals as goal

pub open-requires : goal.open-requires
open-requires c = begins 65 refl
