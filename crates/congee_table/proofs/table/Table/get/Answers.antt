use Rattle.std.proofs.Common.{sym}
use Rattle.congee_table.proofs.RowsLaws.{no_row_at, none_read}
use Rattle.congee_table.proofs.table.Table.get.Goals as goal

pub returns-in_err-number : goal.returns-in_err-number
returns-in_err-number g c =
    let none = none_read _ (rw c.from.ensures at c.in_err-number.ensures) in
    rw (c.from_residual.ensures, ← c.self.view_is) (sym (no_row_at c.self.inside.first.pairs c.args.id none))
