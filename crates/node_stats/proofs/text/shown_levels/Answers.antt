use Rattle.std.proofs.Common.{rules}
use Rattle.node_stats.proofs.text.shown_levels.Goals as goal

pub returns-then-levels-gt8-clause-value : goal.returns-then-levels-gt8-clause-value
returns-then-levels-gt8-clause-value c = search rules

pub returns-then-levels-gt8-clause-few : goal.returns-then-levels-gt8-clause-few
returns-then-levels-gt8-clause-few c = search rules
