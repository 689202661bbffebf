use Rattle.std.proofs.Common.{arith, sym, subst}
use Rattle.tree_links.specs.Places.{as_linked}
use Rattle.tree_links.specs.LeafCalls.{HasLeafAt, HasNothing, TakesPayload}
use Rattle.tree_links.specs.SeenTable.{links_of, name_of, seen_table}
use Rattle.tree_links.proofs.CallLaws.{table_is}
use Rattle.tree_links.proofs.PayloadLaws.{leaf_is, takes_payload, has_nothing, if_some, if_none, pairs_if_taken}
use Rattle.tree_links.proofs.links.Links.take_payload.Goals as goal

pub take_payload_at-requires : goal.take_payload_at-requires
take_payload_at-requires g c =
    let t = links_of as_linked c.self.inside.nodes.slots in
    leaf_is t c.args.slot (subst (λ s. HasLeafAt s (name_of c.args.slot)) (sym (table_is t _ _ _ c.self.view_is)) c.requires)

pub invariant_of-self : goal.invariant_of-self
invariant_of-self g c =
    let t = links_of as_linked c.self.inside.nodes.slots in
    let u = links_of as_linked c.take_payload_at.new.nodes.slots in
    let e = c.take_payload_at.ensures in
    let same = pairs_if_taken t u c.args.slot c.args.byte c.take_payload_at.result e.takes e.same in
    let i = c.self.invariant in
    (omega (arith, i.0, same), omega (arith, i.1, e.len, e.capacity), omega (arith, i.2, e.capacity))

pub returns-clause-takes : goal.returns-clause-takes
returns-clause-takes g c =
    let t = links_of as_linked c.self.inside.nodes.slots in
    let u = links_of as_linked c.take_payload_at.new.nodes.slots in
    if_some c.take_payload_at.result
    (λ before h. subst (λ s. TakesPayload s (seen_table u) (name_of c.args.slot) c.args.byte before) (table_is t _ _ _ c.self.view_is) (takes_payload t u c.args.slot c.args.byte before h))
    c.take_payload_at.ensures.takes

pub returns-clause-none : goal.returns-clause-none
returns-clause-none g c =
    let t = links_of as_linked c.self.inside.nodes.slots in
    if_none c.take_payload_at.result
    (λ h. subst (λ s. HasNothing s (name_of c.args.slot) c.args.byte) (table_is t _ _ _ c.self.view_is) (has_nothing t c.args.slot c.args.byte h))
    c.take_payload_at.ensures.none
