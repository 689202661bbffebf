use Rattle.std.proofs.Common.{rules}
use Rattle.text_run.proofs.reply.sum.Goals as goal

pub returns : goal.returns
returns c = search rules
