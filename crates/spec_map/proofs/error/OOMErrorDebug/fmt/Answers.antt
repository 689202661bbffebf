use Rattle.std.proofs.Common.{rules}
use Rattle.spec_map.proofs.error.OOMErrorDebug.fmt.Goals as goal

pub returns : goal.returns
returns g c = search rules
