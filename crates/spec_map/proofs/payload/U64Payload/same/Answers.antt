use Rattle.std.proofs.Common.{rules}
use Rattle.spec_map.proofs.payload.U64Payload.same.Goals as goal

pub returns : goal.returns
returns c = search rules
