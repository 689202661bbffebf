use Rattle.std.proofs.Common.{sym, subst}
use Rattle.word_hazards.specs.Views.{View, HasIssued}
use Rattle.word_owners.proofs.owners.Owners.insert_by.Goals as goal

pub returns-in-Ok-clause-first : goal.returns-in-Ok-clause-first
returns-in-Ok-clause-first c = λ o x. c.in-Ok.ensures.first o (subst (λ (v : View). HasIssued v c.in-Ok.ticket o) (sym c.loop.invariant.1) x)
