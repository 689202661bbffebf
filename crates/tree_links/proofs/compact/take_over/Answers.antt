use Rattle.std.proofs.Common.{sym}
use Rattle.tree_links.proofs.OverLaws.{goes_over, pairs-over}
use Rattle.tree_links.proofs.compact.take_over.Goals as goal

pub returns-in-Some-clause-goes : goal.returns-in-Some-clause-goes
returns-in-Some-clause-goes g c =
    let x = c.in-Some.ensures in
    let y = c.insert_reserved.ensures in
    goes_over g.N.LinkedNode.node _ _ _ _ c.args.slot c.insert_reserved.result c.in-Some.node (sym x.value) x.updates.changed x.updates.others y.was_vacant y.updates.changed y.updates.others

pub returns-in-Some-clause-pairs : goal.returns-in-Some-clause-pairs
returns-in-Some-clause-pairs g c =
    let x = c.in-Some.ensures in
    let y = c.insert_reserved.ensures in
    pairs-over g.N.LinkedNode.node _ _ _ _ c.args.slot c.insert_reserved.result c.in-Some.node (sym x.value) x.updates.changed x.updates.others y.was_vacant y.updates.changed y.updates.others
