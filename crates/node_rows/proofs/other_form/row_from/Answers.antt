use Rattle.std.proofs.Common.{rules, ◌≡◌, length, refl}
use Rattle.node_forms.proofs.SortedLaws.{sorted_empty}
use Rattle.node_rows.proofs.other_form.row_from.Goals as goal

pub move_children-requires-clause-new : goal.move_children-requires-clause-new
move_children-requires-clause-new g c =
    let long : length c.new-head.result.keys ≡ 48 = search rules in
    rw c.in_ok-row.ensures.items (((sorted_empty {C = g.row.C.Denot} {count = c.new-head.result.base.count} long (search rules)).0, search rules), search rules)

pub move_children-requires-clause-empty : goal.move_children-requires-clause-empty
move_children-requires-clause-empty g c =
    let long : length c.new-head.result.keys ≡ 48 = search rules in
    rw c.in_ok-row.ensures.items (sorted_empty {C = g.row.C.Denot} {count = 0} long refl).1
