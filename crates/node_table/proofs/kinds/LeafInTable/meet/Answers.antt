use Rattle.node_table.proofs.BeginLaws.{begun, parted}
use Rattle.node_table.proofs.kinds.LeafInTable.meet.Goals as goal

pub returns-then-begins : goal.returns-then-begins
returns-then-begins g c = (begun _ _ _ _ c.begins.ensures c.base.ensures.prefix c.requires.word c.if-begins.true, c.requires.kind.1)

pub returns-else-begins : goal.returns-else-begins
returns-else-begins g c = parted _ _ _ _ c.begins.ensures c.base.ensures.prefix c.requires.word c.if-begins.false
