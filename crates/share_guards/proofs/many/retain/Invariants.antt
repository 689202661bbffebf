-- The operations remove what isn't left of what was found, and the seat keeps its number.
use Rattle.share_guards.specs.inner.Kept.{pairs_in}
use Rattle.share_rule.specs.inner.Steps.{at_of, found_of, number_of, operations_of_found}
use Rattle.share_works.specs.Made.{retaining}
use Rattle.share_guards.proofs.many.retain.Given as goal

abbrev pub ghosts-release : goal.ghosts-release
ghosts-release g a = record {
  operations = operations_of_found (λ s. retaining (g.M.Ordered.pairs s.under) (pairs_in (λ y. g.M.Ordered.pairs y.under) a.seat.now.me.1)) (found_of a.seat.now.me.0);
  number = number_of (at_of a.seat.now.me.0);
}
