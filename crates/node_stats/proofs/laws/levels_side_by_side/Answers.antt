use Rattle.node_stats.proofs.VisitLaws.{visits-append}
use Rattle.node_stats.proofs.laws.levels_side_by_side.Goals as goal

pub returns : goal.returns
returns c = visits-append
