use Rattle.std.proofs.Common.{◌≡◌, ◌<◌, ◌∙◌, [], ◌∷◌, Some, None, option_copied, length, take, drop, get_or, ap, arith, sym, subst, refl}
use Rattle.std.proofs.lemmas.List.{length-take}
use Rattle.spec_map.specs.Map.{put}
use Rattle.spec_node.specs.Key.{IsFirstDifference}
use Rattle.tree_links.specs.Places.{as_linked}
use Rattle.tree_links.specs.LinkNode.{LinkNode}
use Rattle.tree_links.specs.PairCalls.{HasBelow}
use Rattle.tree_links.specs.SeenTable.{link_at, links_of, name_of, seen_node, seen_table}
use Rattle.tree_links.specs.SplitsChild.{IsParted, SplitsChild}
use Rattle.tree_links.specs.declared.link.Link.TheVariants.{Slot, Pair}
use Rattle.tree_links.specs.inner.Pairs.{pairs_in_link, pairs_in_links}
use Rattle.tree_links.specs.inner.Slots.{SameSlots, ExchangesLink}
use Rattle.tree_links.proofs.CallLaws.{slot_below, has_slot, same_link, parted_is, table_is, free_is}
use Rattle.tree_links.proofs.PairSums.{pairs-exchanged, pairs-more, pairs-two}
use Rattle.tree_links.proofs.SeenLaws.{byte_inside, slot_at, at_slot}
use Rattle.tree_links.proofs.SlotLaws.{none_there, node_there, not_none, same_others}
use Rattle.tree_links.proofs.SplitTreeLaws.{split_tree}
use Rattle.tree_links.proofs.SplitLaws.{two_links, split_above}
use Rattle.tree_links.proofs.links.Links.split_above.Goals as goal

pub unreachable-requires : goal.unreachable-requires
unreachable-requires g c =
    let f = as_linked in
    let t = links_of f c.self.inside.nodes.slots in
    let parted = subst (λ s. IsParted s (name_of c.args.slot) c.args.key.now c.args.at) (sym (table_is t _ _ _ c.self.view_is)) c.requires.parted in
    let n = slot_at t c.args.slot parted.node parted.here in
    not_none f c.self.inside.nodes.slots c.args.slot n.node (sym c.get.ensures ∙ ap option_copied c.in_default.is) n.here

pub bounds-prefix-at : goal.bounds-prefix-at
bounds-prefix-at g c =
    let f = as_linked in
    let t = links_of f c.self.inside.nodes.slots in
    let inside = byte_inside c.args.byte (omega arith) in
    let here = node_there f c.self.inside.nodes.slots c.args.slot c.in-Some.old.now (sym c.get.ensures ∙ ap option_copied c.in-Some.is) in
    let parted = subst (λ s. IsParted s (name_of c.args.slot) c.args.key.now c.args.at) (sym (table_is t _ _ _ c.self.view_is)) c.requires.parted in
    let differs : IsFirstDifference (f c.in-Some.old.now).prefix c.args.key.now c.args.at = parted_is (seen_table t) (name_of c.args.slot) (seen_node c.args.slot (f c.in-Some.old.now)) c.args.key.now c.args.at (at_slot t c.args.slot (f c.in-Some.old.now) here) parted in
    let prefix = c.prefix-prefix.ensures.bytes ∙ c.base.ensures.prefix in
    let same = ap length prefix in
    omega (arith, differs.inside, same)

pub bounds-key-at : goal.bounds-key-at
bounds-key-at g c =
    let f = as_linked in
    let t = links_of f c.self.inside.nodes.slots in
    let inside = byte_inside c.args.byte (omega arith) in
    let here = node_there f c.self.inside.nodes.slots c.args.slot c.in-Some.old.now (sym c.get.ensures ∙ ap option_copied c.in-Some.is) in
    let parted = subst (λ s. IsParted s (name_of c.args.slot) c.args.key.now c.args.at) (sym (table_is t _ _ _ c.self.view_is)) c.requires.parted in
    let differs : IsFirstDifference (f c.in-Some.old.now).prefix c.args.key.now c.args.at = parted_is (seen_table t) (name_of c.args.slot) (seen_node c.args.slot (f c.in-Some.old.now)) c.args.key.now c.args.at (at_slot t c.args.slot (f c.in-Some.old.now) here) parted in
    let prefix = c.prefix-prefix.ensures.bytes ∙ c.base.ensures.prefix in
    let same = ap length prefix in
    let early : c.args.at < 7 = omega (arith, differs.inside, same, c.prefix-prefix.ensures.short) in
    omega (arith, early)

pub exchange_at-requires : goal.exchange_at-requires
exchange_at-requires g c =
    let t = links_of as_linked c.self.inside.nodes.slots in
    let inside = byte_inside c.args.byte (omega arith) in
    let p = slot_below t c.args.parent c.args.byte inside c.args.slot (subst (λ s. HasBelow s (name_of c.args.parent) c.args.byte (name_of c.args.slot)) (sym (table_is t _ _ _ c.self.view_is)) c.requires.below) in
    has_slot t c.args.parent c.args.byte inside _ _ p

pub with_both-node-requires-clause-empty : goal.with_both-node-requires-clause-empty
with_both-node-requires-clause-empty g c = ap (λ (n : LinkNode g.row.P.Denot). n.links) c.requires.upper

pub with_both-node-requires-clause-form : goal.with_both-node-requires-clause-form
with_both-node-requires-clause-form g c = ap (λ (n : LinkNode g.row.P.Denot). n.form) c.requires.upper

pub with_both-node-requires-clause-apart : goal.with_both-node-requires-clause-apart
with_both-node-requires-clause-apart g c =
    let f = as_linked in
    let t = links_of f c.self.inside.nodes.slots in
    let inside = byte_inside c.args.byte (omega arith) in
    let here = node_there f c.self.inside.nodes.slots c.args.slot c.in-Some.old.now (sym c.get.ensures ∙ ap option_copied c.in-Some.is) in
    let parted = subst (λ s. IsParted s (name_of c.args.slot) c.args.key.now c.args.at) (sym (table_is t _ _ _ c.self.view_is)) c.requires.parted in
    let differs : IsFirstDifference (f c.in-Some.old.now).prefix c.args.key.now c.args.at = parted_is (seen_table t) (name_of c.args.slot) (seen_node c.args.slot (f c.in-Some.old.now)) c.args.key.now c.args.at (at_slot t c.args.slot (f c.in-Some.old.now) here) parted in
    let prefix = c.prefix-prefix.ensures.bytes ∙ c.base.ensures.prefix in
    let same = ap length prefix in
    λ e. differs.differ (ap (λ q. get_or q c.args.at 0) (sym prefix) ∙ e)

pub with_both-node-requires-clause-old : goal.with_both-node-requires-clause-old
with_both-node-requires-clause-old g c =
    let f = as_linked in
    let t = links_of f c.self.inside.nodes.slots in
    let inside = byte_inside c.args.byte (omega arith) in
    let here = node_there f c.self.inside.nodes.slots c.args.slot c.in-Some.old.now (sym c.get.ensures ∙ ap option_copied c.in-Some.is) in
    let parted = subst (λ s. IsParted s (name_of c.args.slot) c.args.key.now c.args.at) (sym (table_is t _ _ _ c.self.view_is)) c.requires.parted in
    let differs : IsFirstDifference (f c.in-Some.old.now).prefix c.args.key.now c.args.at = parted_is (seen_table t) (name_of c.args.slot) (seen_node c.args.slot (f c.in-Some.old.now)) c.args.key.now c.args.at (at_slot t c.args.slot (f c.in-Some.old.now) here) parted in
    let prefix = c.prefix-prefix.ensures.bytes ∙ c.base.ensures.prefix in
    let same = ap length prefix in
    let early : c.args.at < 7 = omega (arith, differs.inside, same, c.prefix-prefix.ensures.short) in
    let alike = ap (λ (n : LinkNode g.row.P.Denot). length n.prefix) c.requires.upper in
    omega (arith, early, alike, length-take c.args.at c.args.key.now)

pub with_both-node-requires-clause-new : goal.with_both-node-requires-clause-new
with_both-node-requires-clause-new g c =
    let f = as_linked in
    let t = links_of f c.self.inside.nodes.slots in
    let inside = byte_inside c.args.byte (omega arith) in
    let here = node_there f c.self.inside.nodes.slots c.args.slot c.in-Some.old.now (sym c.get.ensures ∙ ap option_copied c.in-Some.is) in
    let parted = subst (λ s. IsParted s (name_of c.args.slot) c.args.key.now c.args.at) (sym (table_is t _ _ _ c.self.view_is)) c.requires.parted in
    let differs : IsFirstDifference (f c.in-Some.old.now).prefix c.args.key.now c.args.at = parted_is (seen_table t) (name_of c.args.slot) (seen_node c.args.slot (f c.in-Some.old.now)) c.args.key.now c.args.at (at_slot t c.args.slot (f c.in-Some.old.now) here) parted in
    let prefix = c.prefix-prefix.ensures.bytes ∙ c.base.ensures.prefix in
    let same = ap length prefix in
    let early : c.args.at < 7 = omega (arith, differs.inside, same, c.prefix-prefix.ensures.short) in
    let alike = ap (λ (n : LinkNode g.row.P.Denot). length n.prefix) c.requires.upper in
    omega (arith, early, alike, length-take c.args.at c.args.key.now)

pub insert_reserved-requires : goal.insert_reserved-requires
insert_reserved-requires g c =
    let t = links_of as_linked c.self.inside.nodes.slots in
    let free = free_is t _ _ _ c.self.view_is in
    let x = c.exchange_at.ensures in
    omega (arith, free, c.requires.free, x.len, x.capacity)

pub invariant_of-self : goal.invariant_of-self
invariant_of-self g c =
    let f = as_linked in
    let t = links_of f c.self.inside.nodes.slots in
    let inside = byte_inside c.args.byte (omega arith) in
    let here = node_there f c.self.inside.nodes.slots c.args.slot c.in-Some.old.now (sym c.get.ensures ∙ ap option_copied c.in-Some.is) in
    let parted = subst (λ s. IsParted s (name_of c.args.slot) c.args.key.now c.args.at) (sym (table_is t _ _ _ c.self.view_is)) c.requires.parted in
    let differs : IsFirstDifference (f c.in-Some.old.now).prefix c.args.key.now c.args.at = parted_is (seen_table t) (name_of c.args.slot) (seen_node c.args.slot (f c.in-Some.old.now)) c.args.key.now c.args.at (at_slot t c.args.slot (f c.in-Some.old.now) here) parted in
    let prefix = c.prefix-prefix.ensures.bytes ∙ c.base.ensures.prefix in
    let same = ap length prefix in
    let p = slot_below t c.args.parent c.args.byte inside c.args.slot (subst (λ s. HasBelow s (name_of c.args.parent) c.args.byte (name_of c.args.slot)) (sym (table_is t _ _ _ c.self.view_is)) c.requires.below) in
    let e = c.exchange_at.ensures.exchanges in
    let y = c.insert_reserved.ensures in
    let zero = ap pairs_in_link (same_link t c.args.parent c.args.byte inside _ _ p e.node e.here e.found) in
    let less = pairs-exchanged t _ _ _ _ _ e in
    let none = none_there f c.exchange_at.new.nodes.slots c.insert_reserved.result y.was_vacant in
    let there = node_there f c.insert_reserved.new.self.slots c.insert_reserved.result c.with_both-node.result y.updates.changed in
    let more = pairs-more _ _ c.insert_reserved.result (f c.with_both-node.result) none there (same_others f _ _ c.insert_reserved.result y.updates.others) in
    let one = ap (λ (n : LinkNode g.row.P.Denot). pairs_in_links n.links) c.with_both-node.ensures.both
    ∙ pairs-two (get_or c.prefix-prefix.result.now c.args.at 0) (get_or c.args.key.now c.args.at 0) (Slot c.args.slot) (Pair c.rest_of.result c.args.payload) (λ e. differs.differ (ap (λ q. get_or q c.args.at 0) (sym prefix) ∙ e)) in
    let free = free_is t _ _ _ c.self.view_is in
    let i = c.self.invariant in
    (omega (arith, zero, less, more, one, i.0), omega (arith, free, c.requires.free, i.1, y.len, c.exchange_at.ensures.len), omega (arith, i.2))

pub returns-clause-free : goal.returns-clause-free
returns-clause-free g c =
    let t = links_of as_linked c.self.inside.nodes.slots in
    let free = free_is t _ _ _ c.self.view_is in
    omega (arith, free, c.requires.free, c.insert_reserved.ensures.len, c.exchange_at.ensures.len)

pub returns-clause-splits : goal.returns-clause-splits
returns-clause-splits g c =
    let f = as_linked in
    let t = links_of f c.self.inside.nodes.slots in
    let inside = byte_inside c.args.byte (omega arith) in
    let here = node_there f c.self.inside.nodes.slots c.args.slot c.in-Some.old.now (sym c.get.ensures ∙ ap option_copied c.in-Some.is) in
    let parted = subst (λ s. IsParted s (name_of c.args.slot) c.args.key.now c.args.at) (sym (table_is t _ _ _ c.self.view_is)) c.requires.parted in
    let differs : IsFirstDifference (f c.in-Some.old.now).prefix c.args.key.now c.args.at = parted_is (seen_table t) (name_of c.args.slot) (seen_node c.args.slot (f c.in-Some.old.now)) c.args.key.now c.args.at (at_slot t c.args.slot (f c.in-Some.old.now) here) parted in
    let prefix = c.prefix-prefix.ensures.bytes ∙ c.base.ensures.prefix in
    let same = ap length prefix in
    let m = links_of f c.exchange_at.new.nodes.slots in
    let u = links_of f c.insert_reserved.new.self.slots in
    let j = c.vacant_key-above.result in
    let p = slot_below t c.args.parent c.args.byte inside c.args.slot (subst (λ s. HasBelow s (name_of c.args.parent) c.args.byte (name_of c.args.slot)) (sym (table_is t _ _ _ c.self.view_is)) c.requires.below) in
    let e = c.exchange_at.ensures.exchanges in
    let x = subst (λ l. ExchangesLink t m c.args.parent c.args.byte l (Slot j)) (same_link t c.args.parent c.args.byte inside _ _ p e.node e.here e.found) e in
    let y = c.insert_reserved.ensures in
    let is : c.insert_reserved.result ≡ j = y.key ∙ c.exchange_at.ensures.next ∙ sym c.vacant_key-above.ensures.value in
    let fresh = subst (λ k. link_at m k ≡ None) is (none_there f c.exchange_at.new.nodes.slots c.insert_reserved.result y.was_vacant) in
    let a = get_or c.prefix-prefix.result.now c.args.at 0 in
    let b = get_or c.args.key.now c.args.at 0 in
    let node : f c.with_both-node.result ≡ two_links (take c.args.at c.args.key.now) a (Slot c.args.slot) b (Pair (drop 1 c.args.key.now) c.args.payload) =
    c.with_both-node.ensures.both
    ∙ ap (λ (n : LinkNode g.row.P.Denot). record n { links = put ((a, Slot c.args.slot) ∷ []) b (Pair c.rest_of.result c.args.payload) }) c.requires.upper
    ∙ ap (λ r. two_links (take c.args.at c.args.key.now) a (Slot c.args.slot) b (Pair r c.args.payload)) c.rest_of.ensures in
    let there : link_at u j ≡ Some (two_links (take c.args.at c.args.key.now) a (Slot c.args.slot) b (Pair (drop 1 c.args.key.now) c.args.payload)) =
    subst (λ k. link_at u k ≡ Some (f c.with_both-node.result)) is (node_there f c.insert_reserved.new.self.slots c.insert_reserved.result c.with_both-node.result y.updates.changed) ∙ ap (λ n. Some n) node in
    let others = subst (λ k. SameSlots m u k) is (same_others f c.exchange_at.new.nodes.slots c.insert_reserved.new.self.slots c.insert_reserved.result y.updates.others) in
    subst (λ s. SplitsChild s (seen_table u) (name_of c.args.parent) c.args.byte (name_of c.args.slot) (name_of j) c.args.key.now c.args.at c.args.payload) (table_is t _ _ _ c.self.view_is)
    (split_above t m u c.args.parent c.args.byte j c.args.key.now c.args.at b c.args.payload inside (byte_inside b c.with_both-node.ensures.new_fits) c.told-key refl c.args.slot (f c.in-Some.old.now) a here c.requires.apart x differs (omega (arith, same, c.prefix-prefix.ensures.short)) (ap (λ q. get_or q c.args.at 0) prefix) fresh there others)

pub returns-clause-tree : goal.returns-clause-tree
returns-clause-tree g c = λ root on.
    split_tree c.args.self.now.table (seen_table (links_of as_linked c.insert_reserved.new.self.slots)) (name_of c.args.parent) c.args.byte (name_of c.args.slot) (name_of c.vacant_key-above.result) c.args.key.now c.args.at c.args.payload (returns-clause-splits g c) root on
