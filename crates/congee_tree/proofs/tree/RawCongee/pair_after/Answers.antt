use Rattle.congee_tree.proofs.BulkLaws.{seen_none, seen_some}
use Rattle.congee_tree.proofs.tree.RawCongee.pair_after.Goals as goal

pub returns-in-None-clause-none : goal.returns-in-None-clause-none
returns-in-None-clause-none g c = rw c.in-None.is (seen_none c.ceiling.result _ c.ceiling.ensures)

pub returns-in-None-clause-some : goal.returns-in-None-clause-some
returns-in-None-clause-some g c = rw c.in-None.is (seen_some c.ceiling.result _ c.ceiling.ensures)

pub returns-in-Some-clause-none : goal.returns-in-Some-clause-none
returns-in-Some-clause-none g c = rw c.in-Some.is (seen_none c.above.result _ c.above.ensures)

pub returns-in-Some-clause-some : goal.returns-in-Some-clause-some
returns-in-Some-clause-some g c = rw c.in-Some.is (seen_some c.above.result _ c.above.ensures)
