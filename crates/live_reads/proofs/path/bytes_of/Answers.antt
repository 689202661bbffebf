use Rattle.live_reads.proofs.Sights.{eight}
use Rattle.live_reads.proofs.path.bytes_of.Goals as goal

pub returns-clause-is : goal.returns-clause-is
returns-clause-is c = eight c.args.key _ _ _ _ _ _ _ _ c.byte_at.ensures c.byte_at-2.ensures c.byte_at-3.ensures c.byte_at-4.ensures c.byte_at-5.ensures c.byte_at-6.ensures c.byte_at-7.ensures c.byte_at-8.ensures
