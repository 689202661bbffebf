use Rattle.std.proofs.Common.{◌≡◌, ◌∙◌, Some, None, ap, arith, sym, subst, refl}
use Rattle.tree_links.specs.Places.{as_linked}
use Rattle.tree_links.specs.LinkNode.{LinkNode}
use Rattle.tree_links.specs.MovesNode.{MovesNode}
use Rattle.tree_links.specs.PairCalls.{HasBelow}
use Rattle.tree_links.specs.SeenTable.{key_under, link_at, links_of, name_of, name_under, seen_table}
use Rattle.tree_links.specs.declared.link.Link.TheVariants.{Slot}
use Rattle.tree_links.specs.inner.Pairs.{pairs_in_link, pairs_in_links}
use Rattle.tree_links.specs.inner.Slots.{SameSlots, ExchangesLink}
use Rattle.tree_links.proofs.CallLaws.{pair_below, has_slot, same_link, table_is, free_is}
use Rattle.tree_links.proofs.KeyLaws.{key_first}
use Rattle.tree_links.proofs.LeafLaws.{leaf_alone}
use Rattle.tree_links.proofs.MoveLaws.{hoisted}
use Rattle.tree_links.proofs.PairSums.{pairs-exchanged, pairs-more}
use Rattle.tree_links.proofs.SeenLaws.{byte_inside}
use Rattle.tree_links.proofs.SlotLaws.{none_there, node_there, same_others}
use Rattle.tree_links.proofs.TreeLaws.{moves_on_path}
use Rattle.tree_links.proofs.links.Links.hoist.Goals as goal

pub first_byte-first-requires : goal.first_byte-first-requires
first_byte-first-requires g c =
    let t = links_of as_linked c.self.inside.nodes.slots in
    let inside = byte_inside c.args.byte (omega arith) in
    let p = pair_below t c.args.slot c.args.byte inside (subst (λ s. HasBelow s (name_of c.args.slot) c.args.byte (name_under c.args.slot c.args.byte)) (sym (table_is t _ _ _ c.self.view_is)) c.requires) in
    rw p.below.here refl

pub exchange_at-link-requires : goal.exchange_at-link-requires
exchange_at-link-requires g c =
    let t = links_of as_linked c.self.inside.nodes.slots in
    let inside = byte_inside c.args.byte (omega arith) in
    let p = pair_below t c.args.slot c.args.byte inside (subst (λ s. HasBelow s (name_of c.args.slot) c.args.byte (name_under c.args.slot c.args.byte)) (sym (table_is t _ _ _ c.self.view_is)) c.requires) in
    has_slot t c.args.slot c.args.byte inside _ _ p.below

pub unreachable-requires : goal.unreachable-requires
unreachable-requires g c =
    let t = links_of as_linked c.self.inside.nodes.slots in
    let inside = byte_inside c.args.byte (omega arith) in
    let p = pair_below t c.args.slot c.args.byte inside (subst (λ s. HasBelow s (name_of c.args.slot) c.args.byte (name_under c.args.slot c.args.byte)) (sym (table_is t _ _ _ c.self.view_is)) c.requires) in
    let x = c.exchange_at-link.ensures.exchanges in
    c.in_default.not-Pair _ _ (same_link t c.args.slot c.args.byte inside _ _ p.below x.node x.here x.found)

pub overflow_sub-self : goal.overflow_sub-self
overflow_sub-self g c =
    let t = links_of as_linked c.self.inside.nodes.slots in
    let one = ap pairs_in_link c.in-Pair.is in
    let less = pairs-exchanged t _ _ _ _ _ c.exchange_at-link.ensures.exchanges in
    omega (arith, one, less, c.self.invariant.0)

pub insert_reserved-requires : goal.insert_reserved-requires
insert_reserved-requires g c =
    let t = links_of as_linked c.self.inside.nodes.slots in
    let one = ap pairs_in_link c.in-Pair.is in
    let less = pairs-exchanged t _ _ _ _ _ c.exchange_at-link.ensures.exchanges in
    let x = c.exchange_at-link.ensures in
    omega (arith, one, less, c.self.invariant.0, c.self.invariant.1, x.len, x.capacity)

pub invariant_of-self : goal.invariant_of-self
invariant_of-self g c =
    let f = as_linked in
    let t = links_of f c.self.inside.nodes.slots in
    let j = c.insert_reserved.result in
    let y = c.insert_reserved.ensures in
    let one = ap pairs_in_link c.in-Pair.is in
    let less = pairs-exchanged t _ _ _ _ _ c.exchange_at-link.ensures.exchanges in
    let none = none_there f c.exchange_at-link.new.nodes.slots j y.was_vacant in
    let there = node_there f c.insert_reserved.new.self.slots j c.leaf_of.result y.updates.changed in
    let more = pairs-more _ _ j (f c.leaf_of.result) none there (same_others f _ _ j y.updates.others) in
    let zero = ap (λ (n : LinkNode g.row.P.Denot). pairs_in_links n.links) c.leaf_of.ensures in
    let i = c.self.invariant in
    (omega (arith, one, less, more, zero, i.0), omega (arith, one, less, i.0, i.1, y.len, c.exchange_at-link.ensures.len), omega (arith, i.2))

pub returns-clause-free : goal.returns-clause-free
returns-clause-free g c =
    let t = links_of as_linked c.self.inside.nodes.slots in
    let one = ap pairs_in_link c.in-Pair.is in
    let less = pairs-exchanged t _ _ _ _ _ c.exchange_at-link.ensures.exchanges in
    let free = free_is t _ _ _ c.self.view_is in
    omega (arith, one, less, free, c.self.invariant.0, c.insert_reserved.ensures.len, c.exchange_at-link.ensures.len)

pub returns-clause-moves : goal.returns-clause-moves
returns-clause-moves g c =
    let f = as_linked in
    let t = links_of f c.self.inside.nodes.slots in
    let m = links_of f c.exchange_at-link.new.nodes.slots in
    let u = links_of f c.insert_reserved.new.self.slots in
    let j = c.vacant_key-below.result in
    let y = c.insert_reserved.ensures in
    let x = subst (λ l. ExchangesLink t m c.args.slot c.args.byte l (Slot j)) c.in-Pair.is c.exchange_at-link.ensures.exchanges in
    let is : c.insert_reserved.result ≡ j = y.key ∙ c.exchange_at-link.ensures.next ∙ sym c.vacant_key-below.ensures.value in
    let fresh = subst (λ k. link_at m k ≡ None) is (none_there f c.exchange_at-link.new.nodes.slots c.insert_reserved.result y.was_vacant) in
    let key : c.whole_key-key.result ≡ key_under x.node.prefix c.args.byte c.in-Pair.rest = c.whole_key-key.ensures.key ∙ sym (key_first x.node.prefix c.args.byte c.first_byte-first.result c.in-Pair.rest (c.first_byte-first.ensures x.node x.here)) in
    let leaf : f c.leaf_of.result ≡ leaf_alone (key_under x.node.prefix c.args.byte c.in-Pair.rest) c.in-Pair.payload = c.leaf_of.ensures ∙ ap (λ k. leaf_alone k c.in-Pair.payload) key in
    let there : link_at u j ≡ Some (leaf_alone (key_under x.node.prefix c.args.byte c.in-Pair.rest) c.in-Pair.payload) =
    subst (λ k. link_at u k ≡ Some (f c.leaf_of.result)) is (node_there f c.insert_reserved.new.self.slots c.insert_reserved.result c.leaf_of.result y.updates.changed) ∙ ap (λ n. Some n) leaf in
    let others = subst (λ k. SameSlots m u k) is (same_others f c.exchange_at-link.new.nodes.slots c.insert_reserved.new.self.slots c.insert_reserved.result y.updates.others) in
    subst (λ s. MovesNode s (seen_table u) (name_of c.args.slot) c.args.byte (name_under c.args.slot c.args.byte) (name_of j)) (table_is t _ _ _ c.self.view_is)
    (hoisted t m u c.args.slot c.args.byte j c.in-Pair.rest c.in-Pair.payload (byte_inside c.args.byte (omega arith)) x fresh there others)

pub returns-clause-same : goal.returns-clause-same
returns-clause-same g c = λ root key on.
    moves_on_path c.args.self.now.table (seen_table (links_of as_linked c.insert_reserved.new.self.slots)) root (name_of c.args.slot) c.args.byte (name_under c.args.slot c.args.byte) (name_of c.vacant_key-below.result) key on (returns-clause-moves g c)
