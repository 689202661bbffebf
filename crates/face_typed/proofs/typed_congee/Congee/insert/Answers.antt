use Rattle.std.proofs.Common.{rules}
use Rattle.face_typed.proofs.typed_congee.Congee.insert.Goals as goal

pub returns-clause-ok : goal.returns-clause-ok
returns-clause-ok g c = search rules
