-- Lines for the clauses that a wrong body breaks, so that the checker refuses it without a second search.
use Rattle.std.proofs.Common.{rules}
use Rattle.olc_write.proofs.linking.set_payload.Goals as goal

pub returns-clause-sets : goal.returns-clause-sets
returns-clause-sets g c = search rules

pub returns-clause-before : goal.returns-clause-before
returns-clause-before g c = search rules
