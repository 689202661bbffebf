-- A line for the clause that a wrong body breaks, so that the checker refuses it without a second search.
use Rattle.std.proofs.Common.{rules}
use Rattle.olc_write.proofs.linking.counted.Goals as goal

pub returns-in-false-true : goal.returns-in-false-true
returns-in-false-true c = search rules
