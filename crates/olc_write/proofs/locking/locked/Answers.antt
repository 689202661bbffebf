-- A line for the clause that a wrong body breaks, so that the checker refuses it without a second search.
use Rattle.std.proofs.Common.{rules}
use Rattle.olc_write.proofs.locking.locked.Goals as goal

pub returns-else-fail-clause-exactly : goal.returns-else-fail-clause-exactly
returns-else-fail-clause-exactly g c = search rules
