use Rattle.std.proofs.Common.{IsSome, None, Some, refl, subst, sym, arith}
use Rattle.tree_links.specs.LinkNode.{looked_at}
use Rattle.tree_links.specs.Places.{as_linked}
use Rattle.tree_edit.proofs.LeafLaws.{link_seen}
use Rattle.tree_edit.proofs.RunLaws.{found_first, none_found}
use Rattle.tree_edit.proofs.leaf_run.byte_after.Goals as goal

pub returns-in-Some-clause-present : goal.returns-in-Some-clause-present
returns-in-Some-clause-present g c = λ n here.
    let links = (as_linked c.node-node.result.now).links in
    let found = found_first links _ _ _ _ c.base.ensures.ascending c.in-Some.ensures.some in
    subst (λ o. IsSome o) (sym (link_seen _ c.args.slot c.in-Some.next (as_linked c.node-node.result.now) c.node-node.ensures (Some (looked_at c.in-Some.field-0-1)) found n here)) refl

pub returns-in-Some-clause-next : goal.returns-in-Some-clause-next
returns-in-Some-clause-next g c = λ n here byte from below.
    let m = as_linked c.node-node.result.now in
    let none = none_found m.links _ _ _ _ c.base.ensures.ascending c.in-Some.ensures.some byte (omega (arith, from)) below in
    link_seen _ c.args.slot byte m c.node-node.ensures None none n here
