use Rattle.std.proofs.Common.{rules}
use Rattle.face_typed.proofs.typed_congee.Congee.exchange.Goals as goal

pub returns-clause-other : goal.returns-clause-other
returns-clause-other g c = search rules
