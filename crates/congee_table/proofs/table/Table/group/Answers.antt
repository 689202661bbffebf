use Rattle.std.proofs.Common.{◌+◌, ◌∙◌, ap, arith}
use Rattle.spec_map.specs.Map.{between}
use Rattle.congee_table.specs.Rows.{RowsView, group_rows}
use Rattle.congee_table.proofs.GroupLaws.{scan_is}
use Rattle.congee_table.proofs.Writes.{kept_range}
use Rattle.congee_table.proofs.table.Table.group.Goals as goal

pub returns : goal.returns
returns g c =
    let second = c.self.inside.second.pairs in
    let start = c.joined_halves-start.result in
    let last = c.joined_halves-last.result in
    let rows = scan_is c.args.group c.args.from c.self.inside.first.pairs second c.self.invariant (omega arith) start last (omega arith) (omega arith)
    ∙ ap (λ (table : RowsView). group_rows table.rows c.args.group c.args.from) c.self.view_is in
    let both = kept_range c.args.buffer.now c.range_inclusive-count.new.buffer c.keep_low.new.pairs (between second start (last + 1)) _ c.range_inclusive-count.result
    rows c.range_inclusive-count.ensures.count c.range_inclusive-count.ensures.written c.keep_low.ensures in
    record { count = both.0; written = both.1 }
