use Rattle.word_hazards.proofs.Books.{links}
use Rattle.word_hazards.proofs.book.set_link.Goals as goal

pub store-requires-clause-rule : goal.store-requires-clause-rule
store-requires-clause-rule c = links _ _ c.args.slot _ _ c.requires.link
