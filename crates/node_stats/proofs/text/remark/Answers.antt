use Rattle.std.proofs.Common.{rules}
use Rattle.node_stats.proofs.text.remark.Goals as goal

pub returns-then-load-full_load : goal.returns-then-load-full_load
returns-then-load-full_load c = search rules
