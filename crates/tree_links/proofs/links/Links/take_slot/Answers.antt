use Rattle.std.proofs.Common.{◌∙◌, IsSome, ap, arith, sym, subst, refl}
use Rattle.node_table.specs.Table.{node_at}
use Rattle.tree_links.specs.Places.{as_linked}
use Rattle.tree_links.specs.LosesNode.{IsEmptyAt, LosesNode}
use Rattle.tree_links.specs.PairCalls.{HasBelow}
use Rattle.tree_links.specs.SeenTable.{links_of, name_of, seen_table}
use Rattle.tree_links.specs.declared.link.Link.TheVariants.{Slot}
use Rattle.tree_links.specs.inner.Pairs.{pairs_in_link, pairs_in_links}
use Rattle.tree_links.specs.inner.Slots.{TakesLink}
use Rattle.tree_links.proofs.CallLaws.{slot_below, has_node, same_link, below_still, is_present, table_is}
use Rattle.tree_links.proofs.PairSums.{pairs-less, pairs-taken}
use Rattle.tree_links.proofs.PayloadLaws.{empty_is, empty_apart, loses_node}
use Rattle.tree_links.proofs.SeenLaws.{byte_inside}
use Rattle.tree_links.proofs.SlotLaws.{none_there, node_there, same_others, value_there}
use Rattle.tree_links.proofs.links.Links.take_slot.Goals as goal

pub remove-node-requires : goal.remove-node-requires
remove-node-requires g c =
    let t = links_of as_linked c.self.inside.nodes.slots in
    let some : IsSome (node_at c.args.self.now.table (name_of c.args.slot)) = rw c.requires.empty.here refl in
    value_there as_linked c.self.inside.nodes.slots c.args.slot (has_node t c.args.slot (subst (λ s. IsSome (node_at s (name_of c.args.slot))) (sym (table_is t _ _ _ c.self.view_is)) some))

pub take_at-requires : goal.take_at-requires
take_at-requires g c =
    let f = as_linked in
    let t = links_of f c.self.inside.nodes.slots in
    let m = links_of f c.remove-node.new.self.slots in
    let inside = byte_inside c.args.byte (omega arith) in
    let e = sym (table_is t _ _ _ c.self.view_is) in
    let x = slot_below t c.args.parent c.args.byte inside c.args.slot (subst (λ s. HasBelow s (name_of c.args.parent) c.args.byte (name_of c.args.slot)) e c.requires.below) in
    let there = node_there f c.self.inside.nodes.slots c.args.slot c.remove-node.result c.remove-node.ensures.value in
    let empty = empty_is t c.args.slot (f c.remove-node.result) there (subst (λ s. IsEmptyAt s (name_of c.args.slot)) e c.requires.empty) in
    let apart = empty_apart t c.args.slot c.args.parent c.args.byte (f c.remove-node.result) x.node (Slot c.args.slot) there empty x.here x.found in
    let others = same_others f c.self.inside.nodes.slots c.remove-node.new.self.slots c.args.slot c.remove-node.ensures.updates.others in
    is_present m c.args.parent c.args.byte inside (Slot c.args.slot) (below_still t m c.args.parent c.args.byte inside (Slot c.args.slot) x (others c.args.parent apart))

pub invariant_of-self : goal.invariant_of-self
invariant_of-self g c =
    let f = as_linked in
    let t = links_of f c.self.inside.nodes.slots in
    let m = links_of f c.remove-node.new.self.slots in
    let inside = byte_inside c.args.byte (omega arith) in
    let e = sym (table_is t _ _ _ c.self.view_is) in
    let x = slot_below t c.args.parent c.args.byte inside c.args.slot (subst (λ s. HasBelow s (name_of c.args.parent) c.args.byte (name_of c.args.slot)) e c.requires.below) in
    let there = node_there f c.self.inside.nodes.slots c.args.slot c.remove-node.result c.remove-node.ensures.value in
    let empty = empty_is t c.args.slot (f c.remove-node.result) there (subst (λ s. IsEmptyAt s (name_of c.args.slot)) e c.requires.empty) in
    let apart = empty_apart t c.args.slot c.args.parent c.args.byte (f c.remove-node.result) x.node (Slot c.args.slot) there empty x.here x.found in
    let others = same_others f c.self.inside.nodes.slots c.remove-node.new.self.slots c.args.slot c.remove-node.ensures.updates.others in
    let y = below_still t m c.args.parent c.args.byte inside (Slot c.args.slot) x (others c.args.parent apart) in
    let none = none_there f c.remove-node.new.self.slots c.args.slot c.remove-node.ensures.updates.changed in
    let k = c.take_at.ensures in
    let less = pairs-less t m c.args.slot (f c.remove-node.result) there none others in
    let zero = ap pairs_in_links empty in
    let more = pairs-taken m _ _ _ _ k.takes in
    let slot = ap pairs_in_link (same_link m c.args.parent c.args.byte inside _ _ y k.takes.node k.takes.here k.takes.found) in
    let i = c.self.invariant in
    (omega (arith, less, zero, more, slot, i.0), omega (arith, i.1, c.remove-node.ensures.len, k.len), omega (arith, i.2))

pub returns-clause-loses : goal.returns-clause-loses
returns-clause-loses g c =
    let f = as_linked in
    let t = links_of f c.self.inside.nodes.slots in
    let m = links_of f c.remove-node.new.self.slots in
    let u = links_of f c.take_at.new.nodes.slots in
    let inside = byte_inside c.args.byte (omega arith) in
    let e = sym (table_is t _ _ _ c.self.view_is) in
    let x = slot_below t c.args.parent c.args.byte inside c.args.slot (subst (λ s. HasBelow s (name_of c.args.parent) c.args.byte (name_of c.args.slot)) e c.requires.below) in
    let there = node_there f c.self.inside.nodes.slots c.args.slot c.remove-node.result c.remove-node.ensures.value in
    let empty = empty_is t c.args.slot (f c.remove-node.result) there (subst (λ s. IsEmptyAt s (name_of c.args.slot)) e c.requires.empty) in
    let apart = empty_apart t c.args.slot c.args.parent c.args.byte (f c.remove-node.result) x.node (Slot c.args.slot) there empty x.here x.found in
    let others = same_others f c.self.inside.nodes.slots c.remove-node.new.self.slots c.args.slot c.remove-node.ensures.updates.others in
    let y = below_still t m c.args.parent c.args.byte inside (Slot c.args.slot) x (others c.args.parent apart) in
    let none = none_there f c.remove-node.new.self.slots c.args.slot c.remove-node.ensures.updates.changed in
    let k = c.take_at.ensures.takes in
    let k' = subst (λ l. TakesLink m u c.args.parent c.args.byte l) (same_link m c.args.parent c.args.byte inside _ _ y k.node k.here k.found) k in
    let form = sym c.base.ensures.form ∙ sym c.get_type.ensures in
    subst (λ s. LosesNode s (seen_table u) (name_of c.args.parent) c.args.byte (name_of c.args.slot) c.get_type.result) (table_is t _ _ _ c.self.view_is)
    (loses_node t m u c.args.parent c.args.byte c.args.slot (f c.remove-node.result) c.get_type.result there empty form none others apart k')
