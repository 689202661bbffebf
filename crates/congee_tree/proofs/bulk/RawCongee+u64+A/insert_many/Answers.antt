use Rattle.std.proofs.Common.{◌^◌, subst}
use Rattle.spec_map.specs.Map.{Rises}
use Rattle.tree_edit.proofs.CountLaws.{is_map}
use Rattle.congee_tree.proofs.bulk.RawCongee+u64+A.insert_many.Goals as goal

pub invariant_of-self : goal.invariant_of-self
invariant_of-self g c = subst (λ m. Rises 0 (2 ^ 64) m) c.table.ensures.pairs (is_map _ _ c.table.ensures.tree)

-- by the tree's call, whose list of insertions is `put_all`
pub returns-clause-ok : goal.returns-clause-ok
returns-clause-ok g c = rw (← c.self.view_is) c.insert_many-inserted.ensures.ok

pub returns-clause-err : goal.returns-clause-err
returns-clause-err g c = rw (← c.self.view_is) c.insert_many-inserted.ensures.err
