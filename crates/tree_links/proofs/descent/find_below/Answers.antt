use Rattle.std.proofs.Common.{◌≡◌, ◌∙◌, Some, None, option_copied, IsSome, ap, arith, sym, refl}
use Rattle.std.proofs.lemmas.Nat.{be_bytes_8}
use Rattle.std.specs.Option.{option_map}
use Rattle.node_table.proofs.KeyLaws.{AreBytes-from_items}
use Rattle.node_table.specs.Table.{node_at}
use Rattle.tree_path.proofs.PathEndLaws.{leads_start, leads_there, leads_short}
use Rattle.tree_links.specs.LinkNode.{seen}
use Rattle.tree_links.specs.SeenTable.{links_of, link_at, name_of, seen_node, seen_table}
use Rattle.tree_links.proofs.SeenLaws.{at_links_of, seen_slot}
use Rattle.tree_links.proofs.FindLaws.{find_down, find_other, find_nothing, find_absent, find_payload, no_slot, no_pair_there, find_pair, find_no_pair}
use Rattle.tree_links.proofs.descent.find_below.Goals as goal

pub down-init : goal.down-init
down-init g c = record { leads = leads_start _ _ _ c.requires; counted = omega arith }

pub unreachable-requires : goal.unreachable-requires
unreachable-requires g c =
    let s = c.args.nodes.now.slots in
    let f = g.N.LinkedNode.node in
    let none : link_at (links_of f s) c.down.slot ≡ None = at_links_of f s c.down.slot ∙ ap (option_map f) (sym c.get.ensures ∙ ap option_copied c.in_default.is) in
    let lacks : node_at (seen_table (links_of f s)) (name_of c.down.slot) ≡ None = seen_slot (links_of f s) c.down.slot ∙ ap (option_map (λ n. seen_node c.down.slot n)) none in
    let has : IsSome (node_at (seen_table (links_of f s)) (name_of c.down.slot)) = leads_there _ _ _ _ _ _ c.down.invariant.leads in
    let clash = rw lacks at has in cc

pub meet-requires : goal.meet-requires
meet-requires g c = be_bytes_8 _ _ c.told-key (λ k. c.fits-key k) c.from_be_bytes-word.ensures

pub overflow_add-above : goal.overflow_add-above
overflow_add-above g c = let l = leads_short _ _ _ _ _ _ c.down.invariant.leads in omega (arith, l)

pub down-smaller : goal.down-smaller
down-smaller g c = let l = leads_short _ _ _ _ _ _ c.down.invariant.leads in omega (arith, l)

pub down-preserved : goal.down-preserved
down-preserved g c =
    let s = c.args.nodes.now.slots in
    let f = g.N.LinkedNode.node in
    let at : link_at (links_of f s) c.down.slot ≡ Some (f c.in-Some.node.now) = at_links_of f s c.down.slot ∙ ap (option_map f) (sym c.get.ensures ∙ ap option_copied c.in-Some.is) in
    let e = c.in-Slot.ensures in
    record {
      leads = find_down (links_of f s) c.args.root c.args.key.now (AreBytes-from_items _ (λ k l. c.fits-key k)) c.told-key _ _ _ _ c.down.invariant.leads at c.in-Slot.below e.0 e.2;
      counted = omega arith;
    }

pub returns-in-Other : goal.returns-in-Other
returns-in-Other g c =
    let s = c.args.nodes.now.slots in
    let f = g.N.LinkedNode.node in
    let at : link_at (links_of f s) c.down.slot ≡ Some (f c.in-Some.node.now) = at_links_of f s c.down.slot ∙ ap (option_map f) (sym c.get.ensures ∙ ap option_copied c.in-Some.is) in
    let x = find_other (links_of f s) c.args.root c.args.key.now (AreBytes-from_items _ (λ k l. c.fits-key k)) c.told-key _ _ _ _ c.down.invariant.leads at c.in-Other.ensures in
    record { value = sym x.value; reads = omega (arith, x.reads); few = x.few }

pub returns-in-Nothing : goal.returns-in-Nothing
returns-in-Nothing g c =
    let s = c.args.nodes.now.slots in
    let f = g.N.LinkedNode.node in
    let at : link_at (links_of f s) c.down.slot ≡ Some (f c.in-Some.node.now) = at_links_of f s c.down.slot ∙ ap (option_map f) (sym c.get.ensures ∙ ap option_copied c.in-Some.is) in
    let e = c.in-Nothing.ensures in
    let x = find_nothing (links_of f s) c.args.root c.args.key.now (AreBytes-from_items _ (λ k l. c.fits-key k)) c.told-key _ _ _ _ c.down.invariant.leads at e.0 e.1 e.2 in
    record { value = sym x.value; reads = omega (arith, x.reads); few = x.few }

pub returns-in-None : goal.returns-in-None
returns-in-None g c =
    let s = c.args.nodes.now.slots in
    let f = g.N.LinkedNode.node in
    let at : link_at (links_of f s) c.down.slot ≡ Some (f c.in-Some.node.now) = at_links_of f s c.down.slot ∙ ap (option_map f) (sym c.get.ensures ∙ ap option_copied c.in-Some.is) in
    let e = c.in-Leaf.ensures in
    let x = find_absent (links_of f s) c.args.root c.args.key.now (AreBytes-from_items _ (λ k l. c.fits-key k)) c.told-key _ _ _ _ c.down.invariant.leads at e.0 e.1 (sym c.in-None.ensures) in
    record { value = sym x.value; reads = omega (arith, x.reads); few = x.few }

pub returns-in-Some-Payload : goal.returns-in-Some-Payload
returns-in-Some-Payload g c =
    let s = c.args.nodes.now.slots in
    let f = g.N.LinkedNode.node in
    let at : link_at (links_of f s) c.down.slot ≡ Some (f c.in-Some.node.now) = at_links_of f s c.down.slot ∙ ap (option_map f) (sym c.get.ensures ∙ ap option_copied c.in-Some.is) in
    let e = c.in-Leaf.ensures in
    let x = find_payload (links_of f s) c.args.root c.args.key.now (AreBytes-from_items _ (λ k l. c.fits-key k)) c.told-key _ _ _ _ c.down.invariant.leads at e.0 e.1 _ (sym c.in-Some-Payload.ensures ∙ ap (λ x. seen (Some x)) c.in-Some-Payload.field-0-is) in
    record { value = sym x.value; reads = omega (arith, x.reads); few = x.few }

-- a leaf has no nodes below it
pub unreachable-requires-in-Some-Slot : goal.unreachable-requires-in-Some-Slot
unreachable-requires-in-Some-Slot g c =
    let s = c.args.nodes.now.slots in
    let f = g.N.LinkedNode.node in
    let at : link_at (links_of f s) c.down.slot ≡ Some (f c.in-Some.node.now) = at_links_of f s c.down.slot ∙ ap (option_map f) (sym c.get.ensures ∙ ap option_copied c.in-Some.is) in
    let e = c.in-Leaf.ensures in
    no_slot (links_of f s) c.args.root c.args.key.now (AreBytes-from_items _ (λ k l. c.fits-key k)) c.told-key _ _ _ _ c.down.invariant.leads at e.0 e.1 c.in-Some-Slot.field-0-0 (sym c.in-Some-Slot.ensures ∙ ap (λ x. seen (Some x)) c.in-Some-Slot.field-0-is)

pub unreachable-requires-in-Some-Pair : goal.unreachable-requires-in-Some-Pair
unreachable-requires-in-Some-Pair g c =
    let s = c.args.nodes.now.slots in
    let f = g.N.LinkedNode.node in
    let at : link_at (links_of f s) c.down.slot ≡ Some (f c.in-Some.node.now) = at_links_of f s c.down.slot ∙ ap (option_map f) (sym c.get.ensures ∙ ap option_copied c.in-Some.is) in
    let e = c.in-Leaf.ensures in
    no_pair_there (links_of f s) c.args.root c.args.key.now (AreBytes-from_items _ (λ k l. c.fits-key k)) c.told-key _ _ _ _ c.down.invariant.leads at e.0 e.1 _ _ (sym c.in-Some-Pair.ensures ∙ ap (λ x. seen (Some x)) c.in-Some-Pair.field-0-is)

pub returns-then-is_rest : goal.returns-then-is_rest
returns-then-is_rest g c =
    let s = c.args.nodes.now.slots in
    let f = g.N.LinkedNode.node in
    let at : link_at (links_of f s) c.down.slot ≡ Some (f c.in-Some.node.now) = at_links_of f s c.down.slot ∙ ap (option_map f) (sym c.get.ensures ∙ ap option_copied c.in-Some.is) in
    let e = c.in-Pair.ensures in
    let x = find_pair (links_of f s) c.args.root c.args.key.now (AreBytes-from_items _ (λ k l. c.fits-key k)) c.told-key _ _ _ _ c.down.invariant.leads at c.in-Pair.rest.now c.in-Pair.payload.now e.0 e.1 e.2 c.is_rest.ensures.seven (c.if-is_rest.ensures.same refl) in
    record { value = sym x.value; reads = omega (arith, x.reads); few = x.few }

pub returns-else-is_rest : goal.returns-else-is_rest
returns-else-is_rest g c =
    let s = c.args.nodes.now.slots in
    let f = g.N.LinkedNode.node in
    let at : link_at (links_of f s) c.down.slot ≡ Some (f c.in-Some.node.now) = at_links_of f s c.down.slot ∙ ap (option_map f) (sym c.get.ensures ∙ ap option_copied c.in-Some.is) in
    let e = c.in-Pair.ensures in
    let x = find_no_pair (links_of f s) c.args.root c.args.key.now (AreBytes-from_items _ (λ k l. c.fits-key k)) c.told-key _ _ _ _ c.down.invariant.leads at c.in-Pair.rest.now c.in-Pair.payload.now e.0 e.1 e.2 c.is_rest.ensures.seven (c.if-is_rest.ensures.other refl) in
    record { value = sym x.value; reads = omega (arith, x.reads); few = x.few }
