use Rattle.std.proofs.Common.{rules}
use Rattle.tree_walk.proofs.range_scan.Tuple2ArrayU88U64RangeEntry.from_pair.Goals as goal

pub returns : goal.returns
returns c = search rules
