use Rattle.std.proofs.Common.{rules}
use Rattle.tree_path.proofs.supply.FormCounts.bytes.Goals as goal

pub returns : goal.returns
returns c = search rules
