use Rattle.live_reads.proofs.Bytes.{digit_is}
use Rattle.live_reads.proofs.path.byte_at.Goals as goal

pub returns : goal.returns
returns c = digit_is c.args.height c.args.key c.requires.0
