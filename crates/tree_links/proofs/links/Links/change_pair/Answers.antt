use Rattle.std.proofs.Common.{◌≡◌, Some, drop, ap, arith, sym, subst}
use Rattle.node_table.specs.Table.{node_at}
use Rattle.tree_links.specs.Places.{as_linked}
use Rattle.tree_links.specs.PairCalls.{HasBelow, ChangesLeaf}
use Rattle.tree_links.specs.SeenTable.{links_of, leaf_of, name_of, name_under, seen_table}
use Rattle.tree_links.specs.declared.link.Link.TheVariants.{Pair}
use Rattle.tree_links.specs.inner.Pairs.{pairs_in_link}
use Rattle.tree_links.specs.inner.Slots.{ExchangesLink}
use Rattle.tree_links.proofs.CallLaws.{pair_below, has_pair, same_link, table_is}
use Rattle.tree_links.proofs.PairLaws.{changes_key}
use Rattle.tree_links.proofs.PairSums.{pairs-exchanged}
use Rattle.tree_links.proofs.SeenLaws.{byte_inside}
use Rattle.tree_links.proofs.links.Links.change_pair.Goals as goal

pub exchange_at-requires : goal.exchange_at-requires
exchange_at-requires g c =
    let t = links_of as_linked c.self.inside.nodes.slots in
    let inside = byte_inside c.args.byte (omega arith) in
    let p = pair_below t c.args.slot c.args.byte inside (subst (λ s. HasBelow s (name_of c.args.slot) c.args.byte (name_under c.args.slot c.args.byte)) (sym (table_is t _ _ _ c.self.view_is)) c.requires.below) in
    has_pair t c.args.slot c.args.byte inside _ _ _ p.below

pub unreachable-requires : goal.unreachable-requires
unreachable-requires g c =
    let t = links_of as_linked c.self.inside.nodes.slots in
    let inside = byte_inside c.args.byte (omega arith) in
    let p = pair_below t c.args.slot c.args.byte inside (subst (λ s. HasBelow s (name_of c.args.slot) c.args.byte (name_under c.args.slot c.args.byte)) (sym (table_is t _ _ _ c.self.view_is)) c.requires.below) in
    let x = c.exchange_at.ensures.exchanges in
    c.in_default.not-Pair _ _ (same_link t c.args.slot c.args.byte inside _ _ p.below x.node x.here x.found)

pub invariant_of-self : goal.invariant_of-self
invariant_of-self g c =
    let t = links_of as_linked c.self.inside.nodes.slots in
    let one = ap pairs_in_link c.in-Pair.is in
    let same = pairs-exchanged t _ _ _ _ _ c.exchange_at.ensures.exchanges in
    let i = c.self.invariant in
    (omega (arith, one, same, i.0), omega (arith, i.1), omega (arith, i.2))

pub returns-clause-changes : goal.returns-clause-changes
returns-clause-changes g c =
    let t = links_of as_linked c.self.inside.nodes.slots in
    let u = links_of as_linked c.exchange_at.new.nodes.slots in
    let e = table_is t _ _ _ c.self.view_is in
    let x = subst (λ l. ExchangesLink t u c.args.slot c.args.byte l (Pair (drop 1 c.args.key.now) c.args.payload)) c.in-Pair.is
    (subst (λ r. ExchangesLink t u c.args.slot c.args.byte c.exchange_at.result (Pair r c.args.payload)) c.rest_of.ensures c.exchange_at.ensures.exchanges) in
    let leaf = subst (λ s. node_at s (name_under c.args.slot c.args.byte) ≡ Some (leaf_of c.args.key.now c.requires.payload)) (sym e) c.requires.is in
    subst (λ s. ChangesLeaf s (seen_table u) (name_under c.args.slot c.args.byte) c.args.key.now c.in-Pair.before c.args.payload) e
    (changes_key t u c.args.slot c.args.byte c.args.key.now c.in-Pair.rest c.in-Pair.before c.args.payload c.requires.payload (byte_inside c.args.byte (omega arith)) c.has_seven.ensures c.told-key x leaf)
