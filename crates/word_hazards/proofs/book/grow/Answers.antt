use Rattle.std.proofs.Common.{ℕ, ◌+◌, sym, subst}
use Rattle.word_book.specs.Book.{Exchanges}
use Rattle.word_hazards.specs.Steps.{Grows}
use Rattle.word_hazards.specs.inner.Rule.{AreHazards}
use Rattle.word_hazards.proofs.Books.{grows}
use Rattle.word_hazards.proofs.book.grow.Goals as goal

pub compare_exchange-found-requires-clause-rule : goal.compare_exchange-found-requires-clause-rule
compare_exchange-found-requires-clause-rule c =
    let s = c.args.seat.now in let n = c.args.number in
    subst (λ (k : ℕ). Exchanges AreHazards Grows s.id s.view k n (n + 1)) (sym c.requires.count.0) (grows s.id n s.view)
