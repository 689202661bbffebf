use Rattle.std.proofs.Common.{arith}
use Rattle.congee_table.proofs.RowsLaws.{regrouped_by, row_in}
use Rattle.congee_table.proofs.table.Table.regroup.Goals as goal

pub returns-clause-old : goal.returns-clause-old
returns-clause-old g c = row_in c.args.self.now.rows c.args.id c.in-Some.row c.in-Some.ensures

pub returns-clause-ok : goal.returns-clause-ok
returns-clause-ok g c =
    regrouped_by c.args.self.now.rows _ c.args.id c.args.group _ c.in-Some.row c.in-Some.ensures c.in_ok-put.ensures.ok (omega arith)
