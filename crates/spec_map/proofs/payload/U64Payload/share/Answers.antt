use Rattle.std.proofs.Common.{rules}
use Rattle.spec_map.proofs.payload.U64Payload.share.Goals as goal

pub returns-clause-alike : goal.returns-clause-alike
returns-clause-alike c = search rules
