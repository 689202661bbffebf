use Rattle.std.proofs.Common.{sym, subst}
use Rattle.word_hazards.specs.Views.{View, HasIssued}
use Rattle.word_owners.proofs.owners.Owners.insert_once.Goals as goal

pub returns-in-Some-clause-first : goal.returns-in-Some-clause-first
returns-in-Some-clause-first c = λ o x. c.in-Some.ensures.first o (subst (λ (v : View). HasIssued v c.in-Some.ticket o) (sym c.vacancy.ensures.seat.1) x)
