use Rattle.std.proofs.Common.{◌≡◌, ◌∙◌, [], ◌∷◌, Some, None, length, take, drop, get_or, ap, arith, sym, subst, refl}
use Rattle.std.proofs.lemmas.List.{length-take}
use Rattle.spec_map.specs.Map.{put}
use Rattle.tree_links.specs.Places.{as_linked}
use Rattle.tree_links.specs.LinkNode.{LinkNode}
use Rattle.tree_links.specs.PairCalls.{HasBelow}
use Rattle.tree_links.specs.SeenTable.{link_at, links_of, name_of, name_under, seen_table}
use Rattle.tree_links.specs.SplitsChild.{IsParted, SplitsChild}
use Rattle.tree_links.specs.declared.link.Link.TheVariants.{Slot, Pair}
use Rattle.tree_links.specs.inner.Pairs.{pairs_in_link, pairs_in_links}
use Rattle.tree_links.specs.inner.Slots.{SameSlots, ExchangesLink}
use Rattle.tree_links.proofs.CallLaws.{pair_below, has_slot, same_link, table_is, free_is}
use Rattle.tree_links.proofs.PairSums.{pairs-exchanged, pairs-more, pairs-two}
use Rattle.tree_links.proofs.SeenLaws.{byte_inside}
use Rattle.tree_links.proofs.SlotLaws.{none_there, node_there, same_others}
use Rattle.tree_links.proofs.SplitTreeLaws.{split_tree}
use Rattle.tree_links.proofs.SplitLaws.{pair_differs, pair_early, other_at, other_apart, two_links, split_pair}
use Rattle.tree_links.proofs.links.Links.split_pair.Goals as goal

pub first_byte-first-requires : goal.first_byte-first-requires
first_byte-first-requires g c =
    let t = links_of as_linked c.self.inside.nodes.slots in
    let inside = byte_inside c.args.byte (omega arith) in
    let p = pair_below t c.args.slot c.args.byte inside (subst (λ s. HasBelow s (name_of c.args.slot) c.args.byte (name_under c.args.slot c.args.byte)) (sym (table_is t _ _ _ c.self.view_is)) c.requires.below) in
    rw p.below.here refl

pub exchange_at-link-requires : goal.exchange_at-link-requires
exchange_at-link-requires g c =
    let t = links_of as_linked c.self.inside.nodes.slots in
    let inside = byte_inside c.args.byte (omega arith) in
    let p = pair_below t c.args.slot c.args.byte inside (subst (λ s. HasBelow s (name_of c.args.slot) c.args.byte (name_under c.args.slot c.args.byte)) (sym (table_is t _ _ _ c.self.view_is)) c.requires.below) in
    has_slot t c.args.slot c.args.byte inside _ _ p.below

pub unreachable-requires : goal.unreachable-requires
unreachable-requires g c =
    let t = links_of as_linked c.self.inside.nodes.slots in
    let inside = byte_inside c.args.byte (omega arith) in
    let p = pair_below t c.args.slot c.args.byte inside (subst (λ s. HasBelow s (name_of c.args.slot) c.args.byte (name_under c.args.slot c.args.byte)) (sym (table_is t _ _ _ c.self.view_is)) c.requires.below) in
    let x = c.exchange_at-link.ensures.exchanges in
    c.in_default.not-Pair _ _ (same_link t c.args.slot c.args.byte inside _ _ p.below x.node x.here x.found)

pub bounds-other-at : goal.bounds-other-at
bounds-other-at g c =
    let f = as_linked in
    let t = links_of f c.self.inside.nodes.slots in
    let m = links_of f c.exchange_at-link.new.nodes.slots in
    let j = c.vacant_key-above.result in
    let inside = byte_inside c.args.byte (omega arith) in
    let x = subst (λ l. ExchangesLink t m c.args.slot c.args.byte l (Slot j)) c.in-Pair.is c.exchange_at-link.ensures.exchanges in
    let parted = subst (λ s. IsParted s (name_under c.args.slot c.args.byte) c.args.key.now c.args.at) (sym (table_is t _ _ _ c.self.view_is)) c.requires.parted in
    let early = pair_early t m c.args.slot c.args.byte j c.args.key.now c.args.at c.in-Pair.rest c.in-Pair.before inside x parted in
    omega (arith, early)

pub bounds-key-at : goal.bounds-key-at
bounds-key-at g c =
    let f = as_linked in
    let t = links_of f c.self.inside.nodes.slots in
    let m = links_of f c.exchange_at-link.new.nodes.slots in
    let j = c.vacant_key-above.result in
    let inside = byte_inside c.args.byte (omega arith) in
    let x = subst (λ l. ExchangesLink t m c.args.slot c.args.byte l (Slot j)) c.in-Pair.is c.exchange_at-link.ensures.exchanges in
    let parted = subst (λ s. IsParted s (name_under c.args.slot c.args.byte) c.args.key.now c.args.at) (sym (table_is t _ _ _ c.self.view_is)) c.requires.parted in
    let early = pair_early t m c.args.slot c.args.byte j c.args.key.now c.args.at c.in-Pair.rest c.in-Pair.before inside x parted in
    omega (arith, early)

pub with_both-node-requires-clause-empty : goal.with_both-node-requires-clause-empty
with_both-node-requires-clause-empty g c = ap (λ (n : LinkNode g.row.P.Denot). n.links) c.requires.upper

pub with_both-node-requires-clause-form : goal.with_both-node-requires-clause-form
with_both-node-requires-clause-form g c = ap (λ (n : LinkNode g.row.P.Denot). n.form) c.requires.upper

pub with_both-node-requires-clause-apart : goal.with_both-node-requires-clause-apart
with_both-node-requires-clause-apart g c =
    let f = as_linked in
    let t = links_of f c.self.inside.nodes.slots in
    let m = links_of f c.exchange_at-link.new.nodes.slots in
    let j = c.vacant_key-above.result in
    let inside = byte_inside c.args.byte (omega arith) in
    let x = subst (λ l. ExchangesLink t m c.args.slot c.args.byte l (Slot j)) c.in-Pair.is c.exchange_at-link.ensures.exchanges in
    let parted = subst (λ s. IsParted s (name_under c.args.slot c.args.byte) c.args.key.now c.args.at) (sym (table_is t _ _ _ c.self.view_is)) c.requires.parted in
    let early = pair_early t m c.args.slot c.args.byte j c.args.key.now c.args.at c.in-Pair.rest c.in-Pair.before inside x parted in
    other_apart t m c.args.slot c.args.byte j c.args.key.now c.args.at c.in-Pair.rest c.in-Pair.before inside x parted c.first_byte-first.result c.whole_key-other.result c.first_byte-first.ensures c.whole_key-other.ensures.key

pub with_both-node-requires-clause-old : goal.with_both-node-requires-clause-old
with_both-node-requires-clause-old g c =
    let f = as_linked in
    let t = links_of f c.self.inside.nodes.slots in
    let m = links_of f c.exchange_at-link.new.nodes.slots in
    let j = c.vacant_key-above.result in
    let inside = byte_inside c.args.byte (omega arith) in
    let x = subst (λ l. ExchangesLink t m c.args.slot c.args.byte l (Slot j)) c.in-Pair.is c.exchange_at-link.ensures.exchanges in
    let parted = subst (λ s. IsParted s (name_under c.args.slot c.args.byte) c.args.key.now c.args.at) (sym (table_is t _ _ _ c.self.view_is)) c.requires.parted in
    let early = pair_early t m c.args.slot c.args.byte j c.args.key.now c.args.at c.in-Pair.rest c.in-Pair.before inside x parted in
    let same = ap (λ (n : LinkNode g.row.P.Denot). length n.prefix) c.requires.upper in
    omega (arith, early, same, length-take c.args.at c.args.key.now)

pub with_both-node-requires-clause-new : goal.with_both-node-requires-clause-new
with_both-node-requires-clause-new g c =
    let f = as_linked in
    let t = links_of f c.self.inside.nodes.slots in
    let m = links_of f c.exchange_at-link.new.nodes.slots in
    let j = c.vacant_key-above.result in
    let inside = byte_inside c.args.byte (omega arith) in
    let x = subst (λ l. ExchangesLink t m c.args.slot c.args.byte l (Slot j)) c.in-Pair.is c.exchange_at-link.ensures.exchanges in
    let parted = subst (λ s. IsParted s (name_under c.args.slot c.args.byte) c.args.key.now c.args.at) (sym (table_is t _ _ _ c.self.view_is)) c.requires.parted in
    let early = pair_early t m c.args.slot c.args.byte j c.args.key.now c.args.at c.in-Pair.rest c.in-Pair.before inside x parted in
    let same = ap (λ (n : LinkNode g.row.P.Denot). length n.prefix) c.requires.upper in
    omega (arith, early, same, length-take c.args.at c.args.key.now)

pub insert_reserved-requires : goal.insert_reserved-requires
insert_reserved-requires g c =
    let t = links_of as_linked c.self.inside.nodes.slots in
    let free = free_is t _ _ _ c.self.view_is in
    let x = c.exchange_at-link.ensures in
    omega (arith, free, c.requires.free, x.len, x.capacity)

pub invariant_of-self : goal.invariant_of-self
invariant_of-self g c =
    let f = as_linked in
    let t = links_of f c.self.inside.nodes.slots in
    let m = links_of f c.exchange_at-link.new.nodes.slots in
    let j = c.vacant_key-above.result in
    let inside = byte_inside c.args.byte (omega arith) in
    let x = subst (λ l. ExchangesLink t m c.args.slot c.args.byte l (Slot j)) c.in-Pair.is c.exchange_at-link.ensures.exchanges in
    let parted = subst (λ s. IsParted s (name_under c.args.slot c.args.byte) c.args.key.now c.args.at) (sym (table_is t _ _ _ c.self.view_is)) c.requires.parted in
    let early = pair_early t m c.args.slot c.args.byte j c.args.key.now c.args.at c.in-Pair.rest c.in-Pair.before inside x parted in
    let y = c.insert_reserved.ensures in
    let one = ap pairs_in_link c.in-Pair.is in
    let less = pairs-exchanged t _ _ _ _ _ c.exchange_at-link.ensures.exchanges in
    let none = none_there f c.exchange_at-link.new.nodes.slots c.insert_reserved.result y.was_vacant in
    let there = node_there f c.insert_reserved.new.self.slots c.insert_reserved.result c.with_both-node.result y.updates.changed in
    let more = pairs-more _ _ c.insert_reserved.result (f c.with_both-node.result) none there (same_others f _ _ c.insert_reserved.result y.updates.others) in
    let apart = other_apart t m c.args.slot c.args.byte j c.args.key.now c.args.at c.in-Pair.rest c.in-Pair.before inside x parted c.first_byte-first.result c.whole_key-other.result c.first_byte-first.ensures c.whole_key-other.ensures.key in
    let two = ap (λ (n : LinkNode g.row.P.Denot). pairs_in_links n.links) c.with_both-node.ensures.both ∙ pairs-two _ _ (Pair c.in-Pair.rest c.in-Pair.before) (Pair c.rest_of.result c.args.payload) apart in
    let free = free_is t _ _ _ c.self.view_is in
    let i = c.self.invariant in
    (omega (arith, one, less, more, two, i.0), omega (arith, free, c.requires.free, i.1, y.len, c.exchange_at-link.ensures.len), omega (arith, i.2))

pub returns-clause-free : goal.returns-clause-free
returns-clause-free g c =
    let t = links_of as_linked c.self.inside.nodes.slots in
    let free = free_is t _ _ _ c.self.view_is in
    omega (arith, free, c.requires.free, c.insert_reserved.ensures.len, c.exchange_at-link.ensures.len)

pub returns-clause-splits : goal.returns-clause-splits
returns-clause-splits g c =
    let f = as_linked in
    let t = links_of f c.self.inside.nodes.slots in
    let m = links_of f c.exchange_at-link.new.nodes.slots in
    let j = c.vacant_key-above.result in
    let inside = byte_inside c.args.byte (omega arith) in
    let x = subst (λ l. ExchangesLink t m c.args.slot c.args.byte l (Slot j)) c.in-Pair.is c.exchange_at-link.ensures.exchanges in
    let parted = subst (λ s. IsParted s (name_under c.args.slot c.args.byte) c.args.key.now c.args.at) (sym (table_is t _ _ _ c.self.view_is)) c.requires.parted in
    let early = pair_early t m c.args.slot c.args.byte j c.args.key.now c.args.at c.in-Pair.rest c.in-Pair.before inside x parted in
    let u = links_of f c.insert_reserved.new.self.slots in
    let y = c.insert_reserved.ensures in
    let is : c.insert_reserved.result ≡ j = y.key ∙ c.exchange_at-link.ensures.next ∙ sym c.vacant_key-above.ensures.value in
    let fresh = subst (λ k. link_at m k ≡ None) is (none_there f c.exchange_at-link.new.nodes.slots c.insert_reserved.result y.was_vacant) in
    let a = get_or c.whole_key-other.result c.args.at 0 in
    let b = get_or c.args.key.now c.args.at 0 in
    let node : f c.with_both-node.result ≡ two_links (take c.args.at c.args.key.now) a (Pair c.in-Pair.rest c.in-Pair.before) b (Pair (drop 1 c.args.key.now) c.args.payload) =
    c.with_both-node.ensures.both
    ∙ ap (λ (n : LinkNode g.row.P.Denot). record n { links = put ((a, Pair c.in-Pair.rest c.in-Pair.before) ∷ []) b (Pair c.rest_of.result c.args.payload) }) c.requires.upper
    ∙ ap (λ r. two_links (take c.args.at c.args.key.now) a (Pair c.in-Pair.rest c.in-Pair.before) b (Pair r c.args.payload)) c.rest_of.ensures in
    let there : link_at u j ≡ Some (two_links (take c.args.at c.args.key.now) a (Pair c.in-Pair.rest c.in-Pair.before) b (Pair (drop 1 c.args.key.now) c.args.payload)) =
    subst (λ k. link_at u k ≡ Some (f c.with_both-node.result)) is (node_there f c.insert_reserved.new.self.slots c.insert_reserved.result c.with_both-node.result y.updates.changed) ∙ ap (λ n. Some n) node in
    let others = subst (λ k. SameSlots m u k) is (same_others f c.exchange_at-link.new.nodes.slots c.insert_reserved.new.self.slots c.insert_reserved.result y.updates.others) in
    let differs = pair_differs t m c.args.slot c.args.byte j c.args.key.now c.args.at c.in-Pair.rest c.in-Pair.before inside x parted in
    let a_is = other_at t m c.args.slot c.args.byte j c.args.key.now c.args.at c.in-Pair.rest c.in-Pair.before inside x parted c.first_byte-first.result c.whole_key-other.result c.first_byte-first.ensures c.whole_key-other.ensures.key in
    subst (λ s. SplitsChild s (seen_table u) (name_of c.args.slot) c.args.byte (name_under c.args.slot c.args.byte) (name_of j) c.args.key.now c.args.at c.args.payload) (table_is t _ _ _ c.self.view_is)
    (split_pair t m u c.args.slot c.args.byte j c.args.key.now c.args.at b c.args.payload inside (byte_inside b c.with_both-node.ensures.new_fits) c.told-key refl c.in-Pair.rest c.in-Pair.before a (byte_inside a c.with_both-node.ensures.old_fits) c.whole_key-other.ensures.seven x differs a_is fresh there others)

pub returns-clause-tree : goal.returns-clause-tree
returns-clause-tree g c = λ root on.
    split_tree c.args.self.now.table (seen_table (links_of as_linked c.insert_reserved.new.self.slots)) (name_of c.args.slot) c.args.byte (name_under c.args.slot c.args.byte) (name_of c.vacant_key-above.result) c.args.key.now c.args.at c.args.payload (returns-clause-splits g c) root on
