use Rattle.std.proofs.Common.{rules, ◌≡◌, length, refl}
use Rattle.node_forms.proofs.SortedLaws.{sorted_empty}
use Rattle.node_forms.proofs.node_4.Node4.new.Goals as goal

pub invariant_of-result : goal.invariant_of-result
invariant_of-result g c =
    let long : length c.new.result.keys ≡ 4 = search rules in
    ((sorted_empty {C = g.row.C.Denot} {count = c.new.result.base.count} long (search rules)).0, search rules)

pub returns-clause-empty : goal.returns-clause-empty
returns-clause-empty g c =
    let long : length c.new.result.keys ≡ 4 = search rules in
    (sorted_empty {C = g.row.C.Denot} {count = 0} long refl).1
