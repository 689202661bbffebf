use Rattle.std.proofs.Common.{◌≡◌, ◌∙◌, Some, IsSome, length, take, ap, arith, sym, subst, refl}
use Rattle.node_table.specs.Table.{node_at}
use Rattle.tree_links.specs.Places.{as_linked}
use Rattle.tree_links.specs.LinkNode.{LinkNode}
use Rattle.tree_links.specs.MovesNode.{MovesNode}
use Rattle.tree_links.specs.PairCalls.{HasLeaf}
use Rattle.tree_links.specs.SeenTable.{key_under, links_of, name_of, name_under, seen_table}
use Rattle.tree_links.specs.declared.link.Link.TheVariants.{Slot, Pair}
use Rattle.tree_links.specs.inner.Pairs.{pairs_in_link, pairs_in_links}
use Rattle.tree_links.specs.inner.Slots.{ExchangesLink}
use Rattle.tree_links.proofs.CallLaws.{slot_below, has_pair, has_node, same_link, below_still, below_begins, table_is}
use Rattle.tree_links.proofs.LeafLaws.{leaf_alone, leaf_there, has_one, seven_in, leaf_apart, one_byte_is, one_payload_is, key_again}
use Rattle.tree_links.proofs.MoveLaws.{lowered}
use Rattle.tree_links.proofs.PairSums.{pairs-exchanged, pairs-less}
use Rattle.tree_links.proofs.SeenLaws.{byte_inside}
use Rattle.tree_links.proofs.SlotLaws.{none_there, node_there, same_others, value_there}
use Rattle.tree_links.proofs.TreeLaws.{moves_on_path}
use Rattle.tree_links.proofs.links.Links.lower.Goals as goal

pub remove-leaf-requires : goal.remove-leaf-requires
remove-leaf-requires g c =
    let t = links_of as_linked c.self.inside.nodes.slots in
    let some : IsSome (node_at c.args.self.now.table (name_of c.args.slot)) = rw c.requires.is refl in
    value_there as_linked c.self.inside.nodes.slots c.args.slot (has_node t c.args.slot (subst (λ s. IsSome (node_at s (name_of c.args.slot))) (sym (table_is t _ _ _ c.self.view_is)) some))

pub copy_from_slice-requires : goal.copy_from_slice-requires
copy_from_slice-requires g c =
    let f = as_linked in
    let t = links_of f c.self.inside.nodes.slots in
    let h = subst (λ s. HasLeaf s (name_of c.args.parent) c.args.byte (name_of c.args.slot)) (sym (table_is t _ _ _ c.self.view_is)) c.requires in
    let is = leaf_there t c.args.slot (f c.remove-leaf.result) h.key h.payload (node_there f c.self.inside.nodes.slots c.args.slot c.remove-leaf.result c.remove-leaf.ensures.value) h.is in
    sym (ap length (c.prefix.ensures.bytes ∙ c.base.ensures.prefix) ∙ seven_in (f c.remove-leaf.result) h.key h.payload h.full is)

pub only_pair-last-requires : goal.only_pair-last-requires
only_pair-last-requires g c =
    let f = as_linked in
    let t = links_of f c.self.inside.nodes.slots in
    let h = subst (λ s. HasLeaf s (name_of c.args.parent) c.args.byte (name_of c.args.slot)) (sym (table_is t _ _ _ c.self.view_is)) c.requires in
    let is = leaf_there t c.args.slot (f c.remove-leaf.result) h.key h.payload (node_there f c.self.inside.nodes.slots c.args.slot c.remove-leaf.result c.remove-leaf.ensures.value) h.is in
    has_one (f c.remove-leaf.result) h.key h.payload is

pub exchange_at-requires : goal.exchange_at-requires
exchange_at-requires g c =
    let f = as_linked in
    let t = links_of f c.self.inside.nodes.slots in
    let m = links_of f c.remove-leaf.new.self.slots in
    let inside = byte_inside c.args.byte (omega arith) in
    let h = subst (λ s. HasLeaf s (name_of c.args.parent) c.args.byte (name_of c.args.slot)) (sym (table_is t _ _ _ c.self.view_is)) c.requires in
    let there = node_there f c.self.inside.nodes.slots c.args.slot c.remove-leaf.result c.remove-leaf.ensures.value in
    let is = leaf_there t c.args.slot (f c.remove-leaf.result) h.key h.payload there h.is in
    let x = slot_below t c.args.parent c.args.byte inside c.args.slot h.below in
    let apart = leaf_apart t c.args.parent c.args.slot x.node (f c.remove-leaf.result) x.here x.inner there (seven_in (f c.remove-leaf.result) h.key h.payload h.full is) in
    let others = same_others f c.self.inside.nodes.slots c.remove-leaf.new.self.slots c.args.slot c.remove-leaf.ensures.updates.others in
    has_pair m c.args.parent c.args.byte inside (Slot c.args.slot) _ _ (below_still t m c.args.parent c.args.byte inside (Slot c.args.slot) x (others c.args.parent apart))

pub invariant_of-self : goal.invariant_of-self
invariant_of-self g c =
    let f = as_linked in
    let t = links_of f c.self.inside.nodes.slots in
    let m = links_of f c.remove-leaf.new.self.slots in
    let inside = byte_inside c.args.byte (omega arith) in
    let h = subst (λ s. HasLeaf s (name_of c.args.parent) c.args.byte (name_of c.args.slot)) (sym (table_is t _ _ _ c.self.view_is)) c.requires in
    let there = node_there f c.self.inside.nodes.slots c.args.slot c.remove-leaf.result c.remove-leaf.ensures.value in
    let is = leaf_there t c.args.slot (f c.remove-leaf.result) h.key h.payload there h.is in
    let x = slot_below t c.args.parent c.args.byte inside c.args.slot h.below in
    let apart = leaf_apart t c.args.parent c.args.slot x.node (f c.remove-leaf.result) x.here x.inner there (seven_in (f c.remove-leaf.result) h.key h.payload h.full is) in
    let others = same_others f c.self.inside.nodes.slots c.remove-leaf.new.self.slots c.args.slot c.remove-leaf.ensures.updates.others in
    let y = below_still t m c.args.parent c.args.byte inside (Slot c.args.slot) x (others c.args.parent apart) in
    let e = c.exchange_at.ensures.exchanges in
    let none = none_there f c.remove-leaf.new.self.slots c.args.slot c.remove-leaf.ensures.updates.changed in
    let less = pairs-less t m c.args.slot (f c.remove-leaf.result) there none others in
    let zero = ap (λ (n : LinkNode g.row.P.Denot). pairs_in_links n.links) is in
    let more = pairs-exchanged m _ _ _ _ _ e in
    let slot = ap pairs_in_link (same_link m c.args.parent c.args.byte inside _ _ y e.node e.here e.found) in
    let i = c.self.invariant in
    (omega (arith, less, zero, more, slot, i.0), omega (arith, i.1, c.remove-leaf.ensures.len, c.exchange_at.ensures.len), omega (arith, i.2))

pub returns-clause-moves : goal.returns-clause-moves
returns-clause-moves g c =
    let f = as_linked in
    let t = links_of f c.self.inside.nodes.slots in
    let m = links_of f c.remove-leaf.new.self.slots in
    let u = links_of f c.exchange_at.new.nodes.slots in
    let inside = byte_inside c.args.byte (omega arith) in
    let h = subst (λ s. HasLeaf s (name_of c.args.parent) c.args.byte (name_of c.args.slot)) (sym (table_is t _ _ _ c.self.view_is)) c.requires in
    let there = node_there f c.self.inside.nodes.slots c.args.slot c.remove-leaf.result c.remove-leaf.ensures.value in
    let is = leaf_there t c.args.slot (f c.remove-leaf.result) h.key h.payload there h.is in
    let x = slot_below t c.args.parent c.args.byte inside c.args.slot h.below in
    let apart = leaf_apart t c.args.parent c.args.slot x.node (f c.remove-leaf.result) x.here x.inner there (seven_in (f c.remove-leaf.result) h.key h.payload h.full is) in
    let others = same_others f c.self.inside.nodes.slots c.remove-leaf.new.self.slots c.args.slot c.remove-leaf.ensures.updates.others in
    let y = below_still t m c.args.parent c.args.byte inside (Slot c.args.slot) x (others c.args.parent apart) in
    let e = c.exchange_at.ensures.exchanges in
    let none = none_there f c.remove-leaf.new.self.slots c.args.slot c.remove-leaf.ensures.updates.changed in
    let e' = subst (λ l. ExchangesLink m u c.args.parent c.args.byte l (Pair c.rest_in_leaf-rest.result c.only_pair-last.result.1)) (same_link m c.args.parent c.args.byte inside _ _ y e.node e.here e.found) e in
    let first : c.copy_from_slice.new.self ≡ take 7 h.key = c.copy_from_slice.ensures.after ∙ c.prefix.ensures.bytes ∙ c.base.ensures.prefix ∙ ap (λ (n : LinkNode g.row.P.Denot). n.prefix) is in
    let last = one_byte_is (f c.remove-leaf.result) h.key h.payload c.only_pair-last.result.0 c.only_pair-last.result.1 is c.only_pair-last.ensures in
    let payload = one_payload_is (f c.remove-leaf.result) h.key h.payload c.only_pair-last.result.0 c.only_pair-last.result.1 is c.only_pair-last.ensures in
    let begins = below_begins t c.args.parent c.args.byte inside c.args.slot h e'.node (sym (others c.args.parent apart) ∙ e'.here) in
    let key = ap (λ r. key_under e'.node.prefix c.args.byte r) c.rest_in_leaf-rest.ensures ∙ key_again e'.node.prefix c.args.byte h.key c.copy_from_slice.new.self c.only_pair-last.result.0 h.full begins first last in
    subst (λ s. MovesNode s (seen_table u) (name_of c.args.parent) c.args.byte (name_of c.args.slot) (name_under c.args.parent c.args.byte)) (table_is t _ _ _ c.self.view_is)
    (lowered t m u c.args.parent c.args.byte c.args.slot c.rest_in_leaf-rest.result c.only_pair-last.result.1 inside h.key (there ∙ ap (λ n. Some n) (is ∙ ap (λ v. leaf_alone h.key v) (sym payload))) none others e' key)

pub returns-clause-same : goal.returns-clause-same
returns-clause-same g c = λ root key on.
    moves_on_path c.args.self.now.table (seen_table (links_of as_linked c.exchange_at.new.nodes.slots)) root (name_of c.args.parent) c.args.byte (name_of c.args.slot) (name_under c.args.parent c.args.byte) key on (returns-clause-moves g c)
