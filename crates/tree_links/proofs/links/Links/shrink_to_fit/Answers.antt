use Rattle.std.proofs.Common.{◌∙◌, ap, arith, sym}
use Rattle.node_table.specs.Table.{node_at}
use Rattle.tree_links.specs.Places.{as_linked}
use Rattle.tree_links.specs.SeenTable.{links_of}
use Rattle.tree_links.proofs.CallLaws.{table_is}
use Rattle.tree_links.proofs.NodeLaws.{all_same}
use Rattle.tree_links.proofs.PairSums.{table-same}
use Rattle.tree_links.proofs.SlotLaws.{same_slots}
use Rattle.tree_links.proofs.links.Links.shrink_to_fit.Goals as goal

pub invariant_of-self : goal.invariant_of-self
invariant_of-self g c =
    let f = as_linked in
    let x = c.shrink_to_fit.ensures in
    let i = c.self.invariant in
    let same = table-same (links_of f c.self.inside.nodes.slots) (links_of f c.shrink_to_fit.new.self.slots) (same_slots f _ _ x.values) in
    (i.0 ∙ sym same, omega (arith, c.if-self-eq0.true, c.capacity.ensures.holds_all, c.capacity.ensures.value), omega (arith, x.capacity, i.2))

pub returns-then-self-eq0 : goal.returns-then-self-eq0
returns-then-self-eq0 g c =
    let f = as_linked in
    let x = c.shrink_to_fit.ensures in
    let e = table_is (links_of f c.self.inside.nodes.slots) _ _ _ c.self.view_is in
    λ o. all_same (links_of f c.self.inside.nodes.slots) _ (same_slots f _ _ x.values) o ∙ ap (λ s. node_at s o) e
