use Rattle.std.proofs.Common.{rules}
use Rattle.face_typed.proofs.typed_congee.Congee.remove.Goals as goal

pub returns-clause-before : goal.returns-clause-before
returns-clause-before g c = search rules

pub returns-clause-pairs : goal.returns-clause-pairs
returns-clause-pairs g c = search rules
