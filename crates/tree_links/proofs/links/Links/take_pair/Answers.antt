use Rattle.std.proofs.Common.{ap, arith, sym, subst}
use Rattle.tree_links.specs.Places.{as_linked}
use Rattle.tree_links.specs.PairCalls.{HasBelow, LosesLeaf}
use Rattle.tree_links.specs.SeenTable.{links_of, name_of, name_under, seen_table}
use Rattle.tree_links.specs.inner.Pairs.{pairs_in_link}
use Rattle.tree_links.specs.inner.Slots.{TakesLink}
use Rattle.tree_links.proofs.CallLaws.{pair_below, is_present, same_link, table_is, free_is}
use Rattle.tree_links.proofs.PairLaws.{loses_leaf}
use Rattle.tree_links.proofs.PairSums.{pairs-taken}
use Rattle.tree_links.proofs.SeenLaws.{byte_inside}
use Rattle.tree_links.proofs.links.Links.take_pair.Goals as goal

pub take_at-link-requires : goal.take_at-link-requires
take_at-link-requires g c =
    let t = links_of as_linked c.self.inside.nodes.slots in
    let inside = byte_inside c.args.byte (omega arith) in
    let p = pair_below t c.args.slot c.args.byte inside (subst (λ s. HasBelow s (name_of c.args.slot) c.args.byte (name_under c.args.slot c.args.byte)) (sym (table_is t _ _ _ c.self.view_is)) c.requires) in
    is_present t c.args.slot c.args.byte inside _ p.below

pub overflow_sub-self : goal.overflow_sub-self
overflow_sub-self g c =
    let t = links_of as_linked c.self.inside.nodes.slots in
    let inside = byte_inside c.args.byte (omega arith) in
    let p = pair_below t c.args.slot c.args.byte inside (subst (λ s. HasBelow s (name_of c.args.slot) c.args.byte (name_under c.args.slot c.args.byte)) (sym (table_is t _ _ _ c.self.view_is)) c.requires) in
    let x = c.take_at-link.ensures.takes in
    let one = ap pairs_in_link (same_link t c.args.slot c.args.byte inside _ _ p.below x.node x.here x.found) in
    let less = pairs-taken t _ _ _ _ x in
    omega (arith, one, less, c.self.invariant.0)

pub unreachable-requires : goal.unreachable-requires
unreachable-requires g c =
    let t = links_of as_linked c.self.inside.nodes.slots in
    let inside = byte_inside c.args.byte (omega arith) in
    let p = pair_below t c.args.slot c.args.byte inside (subst (λ s. HasBelow s (name_of c.args.slot) c.args.byte (name_under c.args.slot c.args.byte)) (sym (table_is t _ _ _ c.self.view_is)) c.requires) in
    let x = c.take_at-link.ensures.takes in
    c.in_default.not-Pair _ _ (same_link t c.args.slot c.args.byte inside _ _ p.below x.node x.here x.found)

pub invariant_of-self : goal.invariant_of-self
invariant_of-self g c =
    let t = links_of as_linked c.self.inside.nodes.slots in
    let one = ap pairs_in_link c.in-Pair.is in
    let less = pairs-taken t _ _ _ _ c.take_at-link.ensures.takes in
    let i = c.self.invariant in
    (omega (arith, one, less, i.0), omega (arith, one, less, i.0, i.1), omega (arith, i.2))

pub returns-clause-loses : goal.returns-clause-loses
returns-clause-loses g c =
    let t = links_of as_linked c.self.inside.nodes.slots in
    let u = links_of as_linked c.take_at-link.new.nodes.slots in
    let e = table_is t _ _ _ c.self.view_is in
    let x = subst (λ l. TakesLink t u c.args.slot c.args.byte l) c.in-Pair.is c.take_at-link.ensures.takes in
    subst (λ s. LosesLeaf s (seen_table u) (name_of c.args.slot) c.args.byte (name_under c.args.slot c.args.byte) c.in-Pair.before) e
    (loses_leaf t u c.args.slot c.args.byte _ c.in-Pair.before (byte_inside c.args.byte (omega arith)) x)

pub returns-clause-free : goal.returns-clause-free
returns-clause-free g c =
    let t = links_of as_linked c.self.inside.nodes.slots in
    let one = ap pairs_in_link c.in-Pair.is in
    let less = pairs-taken t _ _ _ _ c.take_at-link.ensures.takes in
    let free = free_is t _ _ _ c.self.view_is in
    let i = c.self.invariant in
    omega (arith, one, less, free, i.0, i.1)
