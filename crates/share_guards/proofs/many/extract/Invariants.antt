-- The operations are the removal of the range from what was found, and the seat keeps its number.
use Rattle.std.specs.Prelude.{length}
use Rattle.spec_map.specs.Map.{between}
use Rattle.share_rule.specs.inner.Steps.{at_of, found_of, number_of, operations_of_found}
use Rattle.share_works.specs.Made.{range_removal}
use Rattle.share_guards.proofs.many.extract.Given as goal

abbrev pub ghosts-release : goal.ghosts-release
ghosts-release g a = record {
  operations = operations_of_found (λ s. range_removal a.first.now a.second.now (length (g.M.Ordered.pairs s.under)) (between (g.M.Ordered.pairs s.under) a.first.now a.second.now)) (found_of a.seat.now.me.0);
  number = number_of (at_of a.seat.now.me.0);
}
