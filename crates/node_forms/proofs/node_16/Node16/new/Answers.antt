use Rattle.std.proofs.Common.{rules, ◌≡◌, length, refl}
use Rattle.node_forms.proofs.SortedLaws.{sorted_empty}
use Rattle.node_forms.proofs.node_16.Node16.new.Goals as goal

pub invariant_of-result : goal.invariant_of-result
invariant_of-result g c =
    let long : length c.new-head.result.keys ≡ 16 = search rules in
    rw c.in_ok-children.ensures.items ((sorted_empty {C = g.row.C.Denot} {count = c.new-head.result.base.count} long (search rules)).0, search rules, search rules)

pub returns-clause-empty : goal.returns-clause-empty
returns-clause-empty g c =
    let long : length c.new-head.result.keys ≡ 16 = search rules in
    rw c.in_ok-children.ensures.items (sorted_empty {C = g.row.C.Denot} {count = 0} long refl).1
