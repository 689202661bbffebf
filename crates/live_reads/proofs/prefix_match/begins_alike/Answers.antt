use Rattle.live_reads.proofs.Bytes.{begins_by}
use Rattle.live_reads.proofs.prefix_match.begins_alike.Goals as goal

pub returns : goal.returns
returns c = λ yes i l. begins_by c.args.head c.args.key c.args.deep c.swap_bytes.result c.ranges.key.fits c.requires c.swap_bytes.ensures yes i l
