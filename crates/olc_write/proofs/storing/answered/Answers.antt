-- A line for the clause that a wrong body breaks, so that the checker refuses it without a second search.
use Rattle.std.proofs.Common.{rules}
use Rattle.olc_write.proofs.storing.answered.Goals as goal

pub returns-in-Given-clause-value : goal.returns-in-Given-clause-value
returns-in-Given-clause-value g c = search rules
