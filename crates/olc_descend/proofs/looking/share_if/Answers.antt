-- A line for the clause that a wrong body breaks, so that the checker refuses it without a second search.
use Rattle.std.proofs.Common.{rules}
use Rattle.olc_descend.proofs.looking.share_if.Goals as goal

pub returns-else-asks-clause-granted : goal.returns-else-asks-clause-granted
returns-else-asks-clause-granted g c = search rules
