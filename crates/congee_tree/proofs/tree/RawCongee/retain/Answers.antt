use Rattle.std.proofs.Common.{arith, refl}
use Rattle.tree_edit.proofs.TidyLaws.{moves_trans}
use Rattle.congee_tree.proofs.BulkLaws.{asking_begins, asking_done}
use Rattle.congee_tree.proofs.tree.RawCongee.retain.Goals as goal

pub loop-key-init : goal.loop-key-init
loop-key-init g c = (c.requires, asking_begins _ _ _ c.law_ordered.ensures, refl)

pub loop-key-preserved : goal.loop-key-preserved
loop-key-preserved g c = (
  c.keep_after.ensures.ready,
  c.in-Some.ensures.asks _ _ c.loop-key.invariant.1,
  moves_trans _ _ _ _ _ _ c.loop-key.invariant.2 c.keep_after.ensures.charge,
)

pub loop-key-smaller : goal.loop-key-smaller
loop-key-smaller g c = let x = c.in-Some.ensures.forward in omega (arith, x.0, x.1)

pub returns-clause-retains : goal.returns-clause-retains
returns-clause-retains g c = let n = c.in_default.ensures.none in asking_done _ _ _ _ _ _ c.loop-key.invariant.1 n.0 _ n.1 _ n.2

pub returns-clause-charge : goal.returns-clause-charge
returns-clause-charge g c = moves_trans _ _ _ _ _ _ c.loop-key.invariant.2 c.keep_after.ensures.charge
