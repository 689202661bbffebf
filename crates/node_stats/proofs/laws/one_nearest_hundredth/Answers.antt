use Rattle.node_stats.proofs.FractionLaws.{one_nearest}
use Rattle.node_stats.proofs.laws.one_nearest_hundredth.Goals as goal

pub returns : goal.returns
returns c = one_nearest
