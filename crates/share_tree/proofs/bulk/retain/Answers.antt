use Rattle.congee_tree.proofs.BulkLaws.{asking_begins, asked, asked_all, asked_forward}
use Rattle.share_tree.proofs.bulk.retain.Goals as goal

pub loop-key-init : goal.loop-key-init
loop-key-init g c = (c.requires, asking_begins _ _ _ c.law_ordered.ensures)

pub loop-key-preserved : goal.loop-key-preserved
loop-key-preserved g c = (
  c.ask_after.ensures.callable,
  asked _ _ _ _ _ _ c.loop-key.invariant.1 _ _ c.in-Some.key c.in-Some.ensures.asks,
)

pub loop-key-smaller : goal.loop-key-smaller
loop-key-smaller g c = asked_forward _ _ _ _ _ _ c.loop-key.invariant.1 _ _ c.in-Some.key c.in-Some.ensures.asks

pub returns-clause-retains : goal.returns-clause-retains
returns-clause-retains g c = asked_all _ _ _ _ _ _ c.loop-key.invariant.1 _ _ c.in_default.ensures.asks
