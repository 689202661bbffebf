use Rattle.std.proofs.Common.{◌≡◌, ◌/◌, ◌^◌, ap, sym, arith}
use Rattle.spec_map.proofs.MapLaws.{without-absent}
use Rattle.congee_table.specs.Index.{joined_halves}
use Rattle.congee_table.specs.declared.table.Row.{Row}
use Rattle.congee_table.proofs.RowsLaws.{no_row_at, number_read, none_read, rows_of-without}
use Rattle.congee_table.proofs.IndexLaws.{indexes_without}
use Rattle.congee_table.proofs.table.Table.delete.Goals as goal

pub invariant_of-self : goal.invariant_of-self
invariant_of-self g c =
    let none = none_read _ (rw c.from.ensures at c.in_err-number.ensures.before) in
    rw (c.remove.ensures.pairs, c.from.ensures, without-absent c.self.inside.first.pairs c.args.id none) c.self.invariant

pub returns-in_err-number-clause-before : goal.returns-in_err-number-clause-before
returns-in_err-number-clause-before g c =
    let none = none_read _ (rw c.from.ensures at c.in_err-number.ensures.before) in
    rw (c.from_residual.ensures, ← c.self.view_is) (sym (no_row_at c.self.inside.first.pairs c.args.id none))

pub returns-in_err-number-clause-rows : goal.returns-in_err-number-clause-rows
returns-in_err-number-clause-rows g c =
    rw (← c.self.view_is, c.remove.ensures.pairs, c.from.ensures) (rows_of-without c.self.inside.first.pairs c.args.id)

pub invariant_of-self-2 : goal.invariant_of-self-2
invariant_of-self-2 g c =
    let place : c.joined_halves.result ≡ joined_halves (c.in_ok-number.number / 2 ^ 32) c.args.id =
    omega (arith, ap (λ (row : Row). row.group) c.row_of-row.ensures, ap (λ (row : Row). row.id) c.row_of-row.ensures)
    in
    let found = number_read _ c.in_ok-number.number (rw c.from.ensures at c.in_ok-number.ensures.before) in
    rw (c.remove.ensures.pairs, c.remove-2.ensures.pairs, place, c.from.ensures)
    (indexes_without c.self.inside.first.pairs c.self.inside.second.pairs c.args.id c.self.invariant (omega arith) c.in_ok-number.number found)

pub returns-clause-rows : goal.returns-clause-rows
returns-clause-rows g c =
    rw (← c.self.view_is, c.remove.ensures.pairs, c.from.ensures) (rows_of-without c.self.inside.first.pairs c.args.id)
