use Rattle.std.proofs.Common.{◌≡◌, ◌∙◌, Option, Some, None, ap, sym, arith}
use Rattle.tree_links.specs.LinkNode.{seen}
use Rattle.tree_links.specs.Places.{as_linked}
use Rattle.tree_links.specs.declared.link.Link.{Link}
use Rattle.tree_links.specs.declared.link.Link.TheVariants.{Payload, Slot, Pair}
use Rattle.tree_edit.proofs.LeafLaws.{pair_here}
use Rattle.tree_edit.proofs.insertion.pair_at.Goals as goal

pub unreachable-requires-in-None : goal.unreachable-requires-in-None
unreachable-requires-in-None g c =
    let p = pair_here _ c.args.slot c.args.byte (as_linked c.in-Some.node.now) (sym c.in-Some.ensures.node) (omega arith) c.requires in
    let clash : ◌≡◌ {A = Option (Link g.row.P.Denot)} None (Some (Pair p.rest p.payload)) = c.in-None.ensures ∙ p.found in cc

pub unreachable-requires-in-Some-Payload : goal.unreachable-requires-in-Some-Payload
unreachable-requires-in-Some-Payload g c =
    let p = pair_here _ c.args.slot c.args.byte (as_linked c.in-Some.node.now) (sym c.in-Some.ensures.node) (omega arith) c.requires in
    let clash : ◌≡◌ {A = Option (Link g.row.P.Denot)} (Some (Payload _)) (Some (Pair p.rest p.payload)) = sym (ap (λ x. seen (Some x)) c.in-Some-Payload.field-0-is) ∙ c.in-Some-Payload.ensures ∙ p.found in cc

pub unreachable-requires-in-Some-Slot : goal.unreachable-requires-in-Some-Slot
unreachable-requires-in-Some-Slot g c =
    let p = pair_here _ c.args.slot c.args.byte (as_linked c.in-Some.node.now) (sym c.in-Some.ensures.node) (omega arith) c.requires in
    let clash : ◌≡◌ {A = Option (Link g.row.P.Denot)} (Some (Slot _)) (Some (Pair p.rest p.payload)) = sym (ap (λ x. seen (Some x)) c.in-Some-Slot.field-0-is) ∙ c.in-Some-Slot.ensures ∙ p.found in cc
