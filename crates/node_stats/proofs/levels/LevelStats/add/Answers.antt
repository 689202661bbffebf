use Rattle.std.proofs.Common.{rules}
use Rattle.node_stats.proofs.levels.LevelStats.add.Goals as goal

pub returns : goal.returns
returns c = search rules
