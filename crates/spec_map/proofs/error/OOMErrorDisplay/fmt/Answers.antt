use Rattle.std.proofs.Common.{rules}
use Rattle.spec_map.proofs.error.OOMErrorDisplay.fmt.Goals as goal

pub returns-clause-writes : goal.returns-clause-writes
returns-clause-writes g c = search rules
