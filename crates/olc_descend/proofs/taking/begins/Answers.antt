use Rattle.olc_descend.proofs.Begun.{starts}
use Rattle.olc_descend.proofs.taking.begins.Goals as goal

pub returns : goal.returns
returns c = starts c.args.prefix.now c.args.bytes.now c.starts_with.result c.starts_with.ensures.value
