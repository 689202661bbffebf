use Rattle.std.proofs.Common.{rules}
use Rattle.node_table.proofs.allocator.BudgetAllocator.allocate.Goals as goal

pub returns-clause-ok : goal.returns-clause-ok
returns-clause-ok c = search rules

pub returns-then-self-bytes-clause-granted : goal.returns-then-self-bytes-clause-granted
returns-then-self-bytes-clause-granted c = search rules
