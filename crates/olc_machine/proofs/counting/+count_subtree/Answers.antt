use Rattle.std.proofs.Common.{◌∷◌, [], ◌++◌, refl, sym, ◌∙◌, arith}
use Rattle.spec_node.specs.declared.child.Child.TheVariants.{Payload, Node}
use Rattle.node_table.proofs.KindLaws.{Rises-mapped, length-mapped}
use Rattle.spec_olc.specs.Meaning.{child_of}
use Rattle.olc_state.specs.inner.Meant.{meant_node}
use Rattle.olc_state.specs.inner.Walks.{meant_nodes}
use Rattle.olc_state.proofs.WalkLaws.{child_next, child_none, never_empty, stored_there}
use Rattle.tree_walk.proofs.VisitedLaws.{counted_node, count_start, count_child, count_end, count_leaf, child_is, not_deep, byte_fits}
use Rattle.olc_machine.proofs.counting.+count_subtree.Goals as goal

pub returns-then-is_leaf-clause-counted : goal.returns-then-is_leaf-clause-counted
returns-then-is_leaf-clause-counted g t c =
    count_leaf (meant_nodes g.P.HasMeaning.meaning c.args.nodes.now.slots) _ _ (meant_node g.P.HasMeaning.meaning c.in-Some.stored.now.node) _ _ c.requires (sym (stored_there g.P.HasMeaning.meaning c.args.nodes.now.slots c.args.slot c.in-Some.stored.now c.in-Some.ensures)) (c.if-is_leaf.ensures.leaf refl)
    (counted_node _ (meant_node g.P.HasMeaning.meaning c.in-Some.stored.now.node) _ _ _ _ (c.get_type.ensures ∙ c.base-base.ensures.form) (c.from.ensures ∙ c.value_count.ensures ∙ c.base-base.ensures.count ∙ sym (length-mapped (child_of g.P.HasMeaning.meaning) c.in-Some.stored.now.node.children)) c.in_ok-add_node.ensures.sums)

pub children-init : goal.children-init
children-init g t c = record {
  counting = count_start (meant_nodes g.P.HasMeaning.meaning c.args.nodes.now.slots) _ (meant_node g.P.HasMeaning.meaning c.in-Some.stored.now.node) _ _ (Rises-mapped (child_of g.P.HasMeaning.meaning) 0 256 c.in-Some.stored.now.node.children c.base-base.ensures.ascending)
      (counted_node _ (meant_node g.P.HasMeaning.meaning c.in-Some.stored.now.node) _ _ _ _ (c.get_type.ensures ∙ c.base-base.ensures.form) (c.from.ensures ∙ c.value_count.ensures ∙ c.base-base.ensures.count ∙ sym (length-mapped (child_of g.P.HasMeaning.meaning) c.in-Some.stored.now.node.children)) c.in_ok-add_node.ensures.sums);
  pairs = c.in_ok-add_node.ensures.pairs;
}

pub unreachable-requires-in-Payload : goal.unreachable-requires-in-Payload
unreachable-requires-in-Payload g t c =
    let s = meant_nodes g.P.HasMeaning.meaning c.args.nodes.now.slots in
    let seven = child_is s c.args.above c.args.slot (meant_node g.P.HasMeaning.meaning c.in-Some.stored.now.node) c.children.from c.in-Some-first_from.byte (Payload (g.P.HasMeaning.meaning c.in-Payload.field-0.now)) c.requires (sym (stored_there g.P.HasMeaning.meaning c.args.nodes.now.slots c.args.slot c.in-Some.stored.now c.in-Some.ensures))
    (child_next g.P.HasMeaning.meaning c.args.nodes.now.slots c.in-Some.stored.now.node c.children.from c.in-Some-first_from.byte (Payload c.in-Payload.field-0.now) (rw c.in-Payload.is at c.in-Some-first_from.ensures.some)) in
    let fewer = c.if-is_leaf.ensures.inner refl in
    omega (arith, seven, fewer)

pub overflow_add-above : goal.overflow_add-above
overflow_add-above g t c = let deep = not_deep (meant_nodes g.P.HasMeaning.meaning c.args.nodes.now.slots) c.args.above c.args.slot c.requires in omega (arith, deep)

pub count_subtree-requires : goal.count_subtree-requires
count_subtree-requires g t c κs within =
    let deep = not_deep (meant_nodes g.P.HasMeaning.meaning c.args.nodes.now.slots) c.args.above c.args.slot c.requires in (
      omega (arith, deep, c.decreases),
      (
        within,
        record {
          above = c.in-Some.stored.now.node.prefix ++ c.in-Some-first_from.byte ∷ [];
          tree = child_is (meant_nodes g.P.HasMeaning.meaning c.args.nodes.now.slots) c.args.above c.args.slot (meant_node g.P.HasMeaning.meaning c.in-Some.stored.now.node) c.children.from c.in-Some-first_from.byte (Node c.in-Node.below) c.requires (sym (stored_there g.P.HasMeaning.meaning c.args.nodes.now.slots c.args.slot c.in-Some.stored.now c.in-Some.ensures))
              (child_next g.P.HasMeaning.meaning c.args.nodes.now.slots c.in-Some.stored.now.node c.children.from c.in-Some-first_from.byte (Node c.in-Node.below) (rw c.in-Node.is at c.in-Some-first_from.ensures.some));
        },
      ),
    )

pub returns-in_err-count_subtree-clause-pairs : goal.returns-in_err-count_subtree-clause-pairs
returns-in_err-count_subtree-clause-pairs g t c = c.count_subtree.ensures.pairs ∙ c.children.invariant.pairs

pub children-smaller : goal.children-smaller
children-smaller g t c =
    let fits = byte_fits c.in-Some.stored.now.node c.children.from c.in-Some-first_from.byte _ _ c.base-base.ensures.ascending c.in-Some-first_from.ensures.some in
    omega (arith, fits, c.in-Some-first_from.ensures.order, c.from-from.ensures)

pub children-preserved : goal.children-preserved
children-preserved g t c = record {
  counting = rw c.from-from.ensures (count_child (meant_nodes g.P.HasMeaning.meaning c.args.nodes.now.slots) c.args.above c.args.slot (meant_node g.P.HasMeaning.meaning c.in-Some.stored.now.node) c.children.from c.in-Some-first_from.byte c.in-Node.below _ _ _ c.requires
      (sym (stored_there g.P.HasMeaning.meaning c.args.nodes.now.slots c.args.slot c.in-Some.stored.now c.in-Some.ensures)) (child_next g.P.HasMeaning.meaning c.args.nodes.now.slots c.in-Some.stored.now.node c.children.from c.in-Some-first_from.byte (Node c.in-Node.below) (rw c.in-Node.is at c.in-Some-first_from.ensures.some)) c.children.invariant.counting c.in_ok-count_subtree.ensures.counted);
  pairs = c.count_subtree.ensures.pairs ∙ c.children.invariant.pairs;
}

pub returns-clause-counted : goal.returns-clause-counted
returns-clause-counted g t c = count_end (meant_nodes g.P.HasMeaning.meaning c.args.nodes.now.slots) _ _ (meant_node g.P.HasMeaning.meaning c.in-Some.stored.now.node) _ _ _ (sym (stored_there g.P.HasMeaning.meaning c.args.nodes.now.slots c.args.slot c.in-Some.stored.now c.in-Some.ensures)) (child_none g.P.HasMeaning.meaning c.args.nodes.now.slots c.in-Some.stored.now.node c.children.from c.in_default-first_from.ensures.none) c.children.invariant.counting

pub returns-clause-pairs : goal.returns-clause-pairs
returns-clause-pairs g t c = c.children.invariant.pairs

pub unreachable-requires : goal.unreachable-requires
unreachable-requires g t c = never_empty g.P.HasMeaning.meaning c.args.nodes.now.slots _ c.args.slot c.requires c.in_default.ensures
