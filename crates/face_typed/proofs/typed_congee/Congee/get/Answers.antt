use Rattle.std.proofs.Common.{rules}
use Rattle.face_typed.proofs.typed_congee.Congee.get.Goals as goal

pub returns : goal.returns
returns g c = search rules
