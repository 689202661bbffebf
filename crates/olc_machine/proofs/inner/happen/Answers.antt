use Rattle.std.proofs.Common.{Some, sym, ◌∙◌}
use Rattle.std.proofs.lemmas.Bool.{false≢true}
use Rattle.olc_machine.proofs.inner.happen.Goals as goal

pub go_on-requires-clause-facts : goal.go_on-requires-clause-facts
go_on-requires-clause-facts g c = c.requires.facts c.in-Some.call c.in-Some.is

pub go_on-requires-clause-goes_on : goal.go_on-requires-clause-goes_on
go_on-requires-clause-goes_on g c at = false≢true (sym c.if-is_at_end.false ∙ c.is_at_end.ensures.1 at)
