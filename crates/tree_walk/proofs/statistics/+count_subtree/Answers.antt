use Rattle.std.proofs.Common.{◌≡◌, ◌+◌, ◌∷◌, [], ◌++◌, refl, subst, sym, ◌∙◌, arith}
use Rattle.spec_map.specs.Map.{between}
use Rattle.spec_node.specs.declared.child.Child.TheVariants.{Payload, Node}
use Rattle.tree_links.specs.Places.{as_linked}
use Rattle.tree_links.specs.LinkNode.{looked_at}
use Rattle.tree_links.specs.SeenTable.{name_of, name_under, seen_node}
use Rattle.tree_links.proofs.SeenLaws.{length-seen}
use Rattle.tree_walk.proofs.VisitedLaws.{counted_node, count_start, count_child, count_end, count_leaf, child_is, not_deep}
use Rattle.tree_walk.proofs.CountLaws.{count_pair}
use Rattle.tree_walk.proofs.LinkLaws.{next_seen, none_seen, rises_seen, stored_next}
use Rattle.tree_walk.proofs.statistics.+count_subtree.Goals as goal
use Rattle.tree_walk.proofs.statistics.+count_subtree.Goals.{in-Slot+in_ok-count_subtree-in-Slot, in-Pair+in_ok-add_node-in-Pair}

pub returns-then-is_leaf-clause-counted : goal.returns-then-is_leaf-clause-counted
returns-then-is_leaf-clause-counted g t c =
    let n = as_linked c.in-Some.node.now in
    count_leaf c.args.nodes.now.table _ _ (seen_node c.args.slot n) _ _ c.requires (sym c.in-Some.ensures.node) (c.if-is_leaf.ensures.leaf refl)
    (counted_node _ (seen_node c.args.slot n) _ _ _ _ (c.get_type.ensures ∙ c.base-base.ensures.form) (c.from.ensures ∙ c.value_count.ensures ∙ c.base-base.ensures.count ∙ sym (length-seen c.args.slot n.links)) c.in_ok-add_node.ensures.sums)

pub children-init : goal.children-init
children-init g t c =
    let n = as_linked c.in-Some.node.now in
    record {
      counting = count_start c.args.nodes.now.table _ (seen_node c.args.slot n) _ _ (rises_seen c.args.slot 0 256 n.links c.base-base.ensures.ascending)
          (counted_node _ (seen_node c.args.slot n) _ _ _ _ (c.get_type.ensures ∙ c.base-base.ensures.form) (c.from.ensures ∙ c.value_count.ensures ∙ c.base-base.ensures.count ∙ sym (length-seen c.args.slot n.links)) c.in_ok-add_node.ensures.sums);
      pairs = c.in_ok-add_node.ensures.pairs;
    }

pub returns-clause-counted : goal.returns-clause-counted
returns-clause-counted g t c =
    let n = as_linked c.in-Some.node.now in
    count_end c.args.nodes.now.table _ _ (seen_node c.args.slot n) _ _ _ (sym c.in-Some.ensures.node) (none_seen c.args.slot n.links c.children.from 256 c.in_default-first_from.ensures.none) c.children.invariant.counting

pub returns-clause-pairs : goal.returns-clause-pairs
returns-clause-pairs g t c = c.children.invariant.pairs

pub overflow_add-above : goal.overflow_add-above
overflow_add-above g t c = let deep = not_deep c.args.nodes.now.table c.args.above (name_of c.args.slot) c.requires in omega (arith, deep)

pub overflow_add-above-in-Pair : goal.overflow_add-above-in-Pair
overflow_add-above-in-Pair g t c = let deep = not_deep c.args.nodes.now.table c.args.above (name_of c.args.slot) c.requires in omega (arith, deep)

pub unreachable-requires-in-Payload : goal.unreachable-requires-in-Payload
unreachable-requires-in-Payload g t c =
    let n = as_linked c.in-Some.node.now in
    let byte = c.in-Some-first_from.byte in
    let next = next_seen c.args.slot n.links c.children.from byte _ (subst (λ x. between n.links c.children.from 256 ≡ (byte, looked_at x) ∷ between n.links (byte + 1) 256) c.in-Payload.is c.in-Some-first_from.ensures.some) in
    let seven = child_is c.args.nodes.now.table c.args.above (name_of c.args.slot) (seen_node c.args.slot n) c.children.from byte (Payload c.in-Payload.field-0.now) c.requires (sym c.in-Some.ensures.node) next in
    let fewer = c.if-is_leaf.ensures.inner refl in
    omega (arith, seven, fewer)

pub count_subtree-requires : goal.count_subtree-requires
count_subtree-requires g t c κs within =
    let n = as_linked c.in-Some.node.now in
    let byte = c.in-Some-first_from.byte in
    let next = next_seen c.args.slot n.links c.children.from byte _ (subst (λ x. between n.links c.children.from 256 ≡ (byte, looked_at x) ∷ between n.links (byte + 1) 256) c.in-Slot.is c.in-Some-first_from.ensures.some) in
    let deep = not_deep c.args.nodes.now.table c.args.above (name_of c.args.slot) c.requires in (
      omega (arith, deep, c.decreases),
      (
        within,
        record {
          above = n.prefix ++ byte ∷ [];
          tree = child_is c.args.nodes.now.table c.args.above (name_of c.args.slot) (seen_node c.args.slot n) c.children.from byte (Node (name_of c.in-Slot.below)) c.requires (sym c.in-Some.ensures.node) next;
        },
      ),
    )

pub children-preserved : goal.children-preserved
children-preserved g t c =
    let n = as_linked c.in-Some.node.now in
    let byte = c.in-Some-first_from.byte in
    let s = c.args.nodes.now.table in
    record {
      counting = rw c.from-from.ensures (elim c.match-child.branch [
        | in-Slot+in_ok-count_subtree-in-Slot w ↦
            let next = next_seen c.args.slot n.links c.children.from byte _ (subst (λ x. between n.links c.children.from 256 ≡ (byte, looked_at x) ∷ between n.links (byte + 1) 256) w.in-Slot.is c.in-Some-first_from.ensures.some) in
            rw w.stats-is (count_child s c.args.above (name_of c.args.slot) (seen_node c.args.slot n) c.children.from byte (name_of w.in-Slot.below) _ _ _ c.requires
            (sym c.in-Some.ensures.node) next c.children.invariant.counting w.in_ok-count_subtree-in-Slot.ensures.counted)
        | in-Pair+in_ok-add_node-in-Pair w ↦
            let first = subst (λ x. between n.links c.children.from 256 ≡ (byte, looked_at x) ∷ between n.links (byte + 1) 256) w.in-Pair.is c.in-Some-first_from.ensures.some in
            let at = stored_next n.links c.base-base.ensures.ascending c.children.from byte _ _ first in
            let next = next_seen c.args.slot n.links c.children.from byte _ first in
            rw w.stats-is (count_child s c.args.above (name_of c.args.slot) (seen_node c.args.slot n) c.children.from byte (name_under c.args.slot byte) _ _ _ c.requires
            (sym c.in-Some.ensures.node) next c.children.invariant.counting
            (count_pair s c.args.slot n c.in-Some.ensures.pairs c.base-base.ensures.ascending byte _ _ at w.pair_number.ensures.seven c.args.above c.requires (sym c.in-Some.ensures.node) c.children.from next _ _ w.in_ok-add_node-in-Pair.ensures.sums))
      ]);
      pairs = elim c.match-child.branch [
        | in-Slot+in_ok-count_subtree-in-Slot w ↦ rw w.stats-is (w.count_subtree.ensures.pairs ∙ c.children.invariant.pairs)
        | in-Pair+in_ok-add_node-in-Pair w ↦ rw w.stats-is (w.add_node-in-Pair.ensures.pairs ∙ c.children.invariant.pairs)
      ];
    }
