use Rattle.std.proofs.Common.{rules}
use Rattle.congee_table.proofs.table.leave.Goals as goal

pub returns-then-old-group-clause-other : goal.returns-then-old-group-clause-other
returns-then-old-group-clause-other g c = search rules
