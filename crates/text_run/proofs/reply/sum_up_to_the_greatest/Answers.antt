use Rattle.std.proofs.Common.{rules}
use Rattle.text_run.proofs.reply.sum_up_to_the_greatest.Goals as goal

pub returns-in-Some : goal.returns-in-Some
returns-in-Some c = search rules
