use Rattle.std.proofs.Common.{rules, ◌≡◌, length, refl}
use Rattle.node_forms.proofs.SortedLaws.{sorted_empty}
use Rattle.node_rows.proofs.row_node.RowNode.empty_inner.Goals as goal

pub invariant_of-result : goal.invariant_of-result
invariant_of-result g c =
    let long : length c.new-head.result.keys ≡ 4 = search rules in
    (((sorted_empty {C = g.row.C.Denot} {count = c.new-head.result.base.count} long (search rules)).0, search rules), search rules)

pub returns : goal.returns
returns g c =
    let long : length c.new-head.result.keys ≡ 4 = search rules in
    rw ((sorted_empty {C = g.row.C.Denot} {count = 0} long refl).1, c.new-head.ensures) refl
