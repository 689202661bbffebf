use Rattle.std.proofs.Common.{rules}
use Rattle.face_typed.proofs.typed_congee.Congee.compute_if_present.Goals as goal

pub returns-clause-present : goal.returns-clause-present
returns-clause-present g c = search rules
