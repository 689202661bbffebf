use Rattle.std.proofs.Common.{refl}
use Rattle.tree_links.specs.LinkNode.{looked_at}
use Rattle.tree_links.proofs.OverLaws.{redirected-passes, redirected-all, redirected-slot, stays_link}
use Rattle.tree_links.proofs.compact.redirect.Goals as goal

pub links-preserved-in-Slot : goal.links-preserved-in-Slot
links-preserved-in-Slot g c =
    redirected-slot c.args.slots.now _ _ _ c.links.from c.in-Some.byte c.in-Some.link c.in-Slot.slot c.new_slot.result c.links.invariant c.in-Some.ensures.order c.in-Some.ensures.some c.in-Slot.is c.new_slot.ensures c.exchange.result c.exchange.ensures.after c.exchange.ensures.absent

pub links-preserved-in-Slot-2 : goal.links-preserved-in-Slot-2
links-preserved-in-Slot-2 g c =
    redirected-slot c.args.slots.now _ _ _ c.links.from c.in-Some.byte c.in-Some.link c.in-Slot.slot c.new_slot.result c.links.invariant c.in-Some.ensures.order c.in-Some.ensures.some c.in-Slot.is c.new_slot.ensures c.exchange.result c.exchange.ensures.after c.exchange.ensures.absent

pub links-preserved-in-Slot-3 : goal.links-preserved-in-Slot-3
links-preserved-in-Slot-3 g c =
    redirected-slot c.args.slots.now _ _ _ c.links.from c.in-Some.byte c.in-Some.link c.in-Slot.slot c.new_slot.result c.links.invariant c.in-Some.ensures.order c.in-Some.ensures.some c.in-Slot.is c.new_slot.ensures c.exchange.result c.exchange.ensures.after c.exchange.ensures.absent

pub links-preserved-in-Slot-6 : goal.links-preserved-in-Slot-6
links-preserved-in-Slot-6 g c =
    redirected-slot c.args.slots.now _ _ _ c.links.from c.in-Some.byte c.in-Some.link c.in-Slot.slot c.new_slot.result c.links.invariant c.in-Some.ensures.order c.in-Some.ensures.some c.in-Slot.is c.new_slot.ensures c.exchange.result c.exchange.ensures.after c.exchange.ensures.absent

pub links-preserved : goal.links-preserved
links-preserved g c =
    redirected-passes c.args.slots.now _ (g.N.LinkedNode.node c.links.node) c.links.from c.in-Some.byte (looked_at c.in-Some.link) c.links.invariant c.in-Some.ensures.order c.in-Some.ensures.some
    (stays_link c.args.slots.now c.in-Some.link (λ j is. c.in_default-link.not-Slot j is))

pub returns : goal.returns
returns g c = redirected-all c.args.slots.now _ _ c.links.from c.links.invariant c.in_default.ensures.none c.base.ensures.ascending c.base-2.ensures.ascending (c.if-is_leaf.ensures.inner refl)
