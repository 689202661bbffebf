use Rattle.std.proofs.Common.{◌∙◌, sym, arith}
use Rattle.congee_table.proofs.RowsLaws.{no_row_at, rows_of-put_joined}
use Rattle.congee_table.proofs.IndexLaws.{indexes_new, indexes_replaced, on_err}
use Rattle.congee_table.proofs.table.Table.put.Goals as goal

pub invariant_of-self : goal.invariant_of-self
invariant_of-self g c = rw (c.in_err-number.ensures.err, c.in_err-number.ensures.left) c.self.invariant

pub invariant_of-self-in_default : goal.invariant_of-self-in_default
invariant_of-self-in_default g c =
    let row = c.args.row in
    let none = sym c.in_ok-number.ensures.before ∙ c.in_default.is in
    rw (c.in_ok-number.ensures.ok, c.in_ok-number.ensures.entered)
    (indexes_new c.self.inside.first.pairs c.self.inside.second.pairs row.id c.self.invariant (omega arith) row.group row.value (omega arith) (omega arith) none)

pub returns-in_default-clause-before : goal.returns-in_default-clause-before
returns-in_default-clause-before g c =
    let none = sym c.in_ok-number.ensures.before ∙ c.in_default.is in
    rw (← c.self.view_is) (sym (no_row_at c.self.inside.first.pairs c.args.row.id none))

pub returns-in_default-clause-ok : goal.returns-in_default-clause-ok
returns-in_default-clause-ok g c =
    let row = c.args.row in
    rw (← c.self.view_is, c.in_ok-number.ensures.ok) (rows_of-put_joined c.self.inside.first.pairs row.id row.group row.value (omega arith))

pub invariant_of-self-2 : goal.invariant_of-self-2
invariant_of-self-2 g c =
    let row = c.args.row in
    let found = sym c.in_ok-number.ensures.before ∙ c.in-Some.is in
    let between = c.in_ok-number.ensures.entered in
    let same = rw (c.row_of-old.ensures, between) at c.leave.ensures.same in
    let other = rw (c.row_of-old.ensures, between) at c.leave.ensures.other in
    rw c.in_ok-number.ensures.ok
    (indexes_replaced c.self.inside.first.pairs c.self.inside.second.pairs row.id c.self.invariant (omega arith) c.leave.new.second.pairs row.group row.value c.in-Some.number
    (omega arith) (omega arith) found same other)

pub returns-clause-ok : goal.returns-clause-ok
returns-clause-ok g c =
    let row = c.args.row in
    rw (← c.self.view_is, c.in_ok-number.ensures.ok) (rows_of-put_joined c.self.inside.first.pairs row.id row.group row.value (omega arith))

pub returns-in_err-number-clause-refused : goal.returns-in_err-number-clause-refused
returns-in_err-number-clause-refused g c =
    on_err c.from_residual.result _ (rw (← c.self.view_is) c.in_err-number.ensures.refused)
