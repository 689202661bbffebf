use Rattle.std.proofs.Common.{rules, arith}
use Rattle.congee_table.proofs.IndexLaws.{entered_and_taken, not_in, not_served, on_err}
use Rattle.congee_table.proofs.table.enter.Goals as goal

pub returns-in_err-insert-clause-refused : goal.returns-in_err-insert-clause-refused
returns-in_err-insert-clause-refused g c =
    let absent = rw c.joined_halves.ensures at c.in_err-insert.ensures.refused.absent in
    on_err c.from_residual.result _ (not_served c.args.first.now.pairs c.args.second.now.pairs c.args.row.id c.args.row.group c.requires.agree absent)

-- what was entered is removed again
pub returns-in-Err-clause-left : goal.returns-in-Err-clause-left
returns-in-Err-clause-left g c =
    let row = c.args.row in
    let taken = entered_and_taken c.args.first.now.pairs c.args.second.now.pairs row.id c.requires.agree (omega arith) row.group c.from.result (omega arith) (rw c.from-2.ensures at c.in-Err.ensures.refused.absent) in
    search rules

pub returns-in-Err-clause-refused : goal.returns-in-Err-clause-refused
returns-in-Err-clause-refused g c = not_in c.args.first.now.pairs c.args.row.id c.args.row.group (rw c.from-2.ensures at c.in-Err.ensures.refused.absent)
