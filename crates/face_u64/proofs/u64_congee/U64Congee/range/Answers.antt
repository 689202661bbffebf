use Rattle.std.proofs.Common.{rules}
use Rattle.face_u64.proofs.u64_congee.U64Congee.range.Goals as goal

pub returns-clause-count : goal.returns-clause-count
returns-clause-count g c = search rules

pub returns-clause-written : goal.returns-clause-written
returns-clause-written g c = search rules
