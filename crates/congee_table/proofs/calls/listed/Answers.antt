use Rattle.congee_table.specs.Rows.{group_rows}
use Rattle.congee_table.proofs.Writes.{cut_to_rows}
use Rattle.congee_table.proofs.calls.listed.Goals as goal

pub returns : goal.returns
returns g c =
    cut_to_rows c.args.limit c.in_ok-rows.rows.len c.group-count.result c.deref_mut.result.now c.group-count.new.buffer _
    (group_rows c.args.table.now.rows c.args.group c.args.from) c.truncate.new.self.items
    c.in_ok-rows.ensures.len c.deref_mut.ensures.len c.group-count.ensures.count c.group-count.ensures.written c.truncate.ensures.items
