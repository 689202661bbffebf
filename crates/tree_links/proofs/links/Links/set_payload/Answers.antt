use Rattle.std.proofs.Common.{arith, sym, subst}
use Rattle.tree_links.specs.Places.{as_linked}
use Rattle.tree_links.specs.LeafCalls.{HasLeafAt, IsFullFor, SetsPayload}
use Rattle.tree_links.specs.SeenTable.{links_of, name_of, seen_table}
use Rattle.tree_links.proofs.CallLaws.{table_is}
use Rattle.node_table.proofs.KindLaws.{if_ok, on_err}
use Rattle.tree_links.proofs.PayloadLaws.{leaf_is, sets_payload, is_full_for, pairs_if_set}
use Rattle.tree_links.proofs.links.Links.set_payload.Goals as goal

pub set_at-requires : goal.set_at-requires
set_at-requires g c =
    let t = links_of as_linked c.self.inside.nodes.slots in
    leaf_is t c.args.slot (subst (λ s. HasLeafAt s (name_of c.args.slot)) (sym (table_is t _ _ _ c.self.view_is)) c.requires)

pub invariant_of-self : goal.invariant_of-self
invariant_of-self g c =
    let t = links_of as_linked c.self.inside.nodes.slots in
    let u = links_of as_linked c.set_at.new.nodes.slots in
    let e = c.set_at.ensures in
    let same = pairs_if_set t u c.args.slot c.args.byte c.args.payload c.set_at.result e.set e.same in
    let i = c.self.invariant in
    (omega (arith, i.0, same), omega (arith, i.1, e.len, e.capacity), omega (arith, i.2, e.capacity))

pub returns-clause-set : goal.returns-clause-set
returns-clause-set g c =
    let t = links_of as_linked c.self.inside.nodes.slots in
    let u = links_of as_linked c.set_at.new.nodes.slots in
    if_ok c.set_at.result
    (λ before h. subst (λ s. SetsPayload s (seen_table u) (name_of c.args.slot) c.args.byte c.args.payload before) (table_is t _ _ _ c.self.view_is) (sets_payload t u c.args.slot c.args.byte c.args.payload before h))
    c.set_at.ensures.set

pub returns-clause-full : goal.returns-clause-full
returns-clause-full g c =
    let t = links_of as_linked c.self.inside.nodes.slots in
    on_err c.set_at.result
    (λ h. subst (λ s. IsFullFor s (name_of c.args.slot) c.args.byte) (table_is t _ _ _ c.self.view_is) (is_full_for t c.args.slot c.args.byte h))
    c.set_at.ensures.full
