use Rattle.std.proofs.Common.{◌∙◌, Some, None, ap, sym, refl}
use Rattle.tree_links.specs.LinkNode.{seen}
use Rattle.tree_links.specs.Places.{as_linked}
use Rattle.tree_links.specs.SeenTable.{name_under}
use Rattle.tree_links.specs.declared.link.Link.TheVariants.{Payload, Slot, Pair}
use Rattle.tree_edit.proofs.LeafLaws.{leaf_has_no, link_seen}
use Rattle.tree_edit.proofs.insertion.payload_at.Goals as goal

pub returns-in-None-clause-none : goal.returns-in-None-clause-none
returns-in-None-clause-none g c = λ n here. link_seen _ c.args.slot c.args.byte (as_linked c.node.result.now) c.node.ensures None (sym c.in-None.ensures) n here

pub returns-in-Some-Payload-clause-some : goal.returns-in-Some-Payload-clause-some
returns-in-Some-Payload-clause-some g c = λ n here.
    link_seen _ c.args.slot c.args.byte (as_linked c.node.result.now) c.node.ensures (Some (Payload _)) (sym c.in-Some-Payload.ensures ∙ ap (λ x. seen (Some x)) c.in-Some-Payload.field-0-is) n here

pub unreachable-requires : goal.unreachable-requires
unreachable-requires g c =
    leaf_has_no _ c.args.slot c.args.byte (as_linked c.node.result.now) c.node.ensures c.requires _ (Slot _) refl (sym c.in-Some-Slot.ensures ∙ ap (λ x. seen (Some x)) c.in-Some-Slot.field-0-is)

pub unreachable-requires-in-Some-Pair : goal.unreachable-requires-in-Some-Pair
unreachable-requires-in-Some-Pair g c =
    leaf_has_no _ c.args.slot c.args.byte (as_linked c.node.result.now) c.node.ensures c.requires (name_under c.args.slot c.args.byte) (Pair _ _) refl (sym c.in-Some-Pair.ensures ∙ ap (λ x. seen (Some x)) c.in-Some-Pair.field-0-is)
