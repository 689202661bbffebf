use Rattle.std.proofs.Common.{rules}
use Rattle.node_stats.proofs.text.Totals.of.Goals as goal

pub returns-clause-bytes : goal.returns-clause-bytes
returns-clause-bytes c = search rules
