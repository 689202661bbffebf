use Rattle.std.proofs.Common.{◌∙◌}
use Rattle.tree_links.specs.Places.{as_linked}
use Rattle.tree_links.specs.SeenTable.{name_of, seen_node}
use Rattle.tree_links.specs.declared.descent.LinkStop.TheVariants as ends
use Rattle.tree_edit.proofs.ReadyLaws.{at_stop, byte_above, counted_at, leaf_ready, place_ready, place_may, beside_ready, over_pair_ready, node_step, not_at_pair, over_node_ready, over_node_may}
use Rattle.tree_edit.proofs.insertion.make_ready.Goals as goal

pub make_room-requires-clause-counted : goal.make_room-requires-clause-counted
make_room-requires-clause-counted g c =
    let q = c.requires.ends in
    counted_at _ q.0 _ _ _ (at_stop _ _ c.args.spot.now q.0 _ (ends.Leaf c.in-Leaf.field-0) c.in-Leaf.is q.1)

pub make_place-requires-clause-counted : goal.make_place-requires-clause-counted
make_place-requires-clause-counted g c =
    let q = c.requires.ends in
    counted_at _ q.0 _ _ _ (at_stop _ _ c.args.spot.now q.0 _ (ends.Absent c.in-Absent.byte) c.in-Absent.is q.1)

pub unreachable-requires : goal.unreachable-requires
unreachable-requires g c =
    let q = c.requires.ends in
    not_at_pair _ q.0 _ _ _ _ _ _ (at_stop _ _ c.args.spot.now q.0 _ (ends.Pair c.in-Pair.field-0) c.in-Pair.is q.1)

pub returns-in_ok-make_room-in-Leaf-clause-ready : goal.returns-in_ok-make_room-in-Leaf-clause-ready
returns-in_ok-make_room-in-Leaf-clause-ready g c = λ root h.
    let e = c.in_ok-make_room-in-Leaf.ensures in
    leaf_ready _ root _ _ _ _ _ _ (at_stop _ _ c.args.spot.now root _ (ends.Leaf c.in-Leaf.field-0) c.in-Leaf.is h) _ e.ok _ e.keeps e.grown

pub returns-in-PairBeside-clause-ready : goal.returns-in-PairBeside-clause-ready
returns-in-PairBeside-clause-ready g c = λ root h.
    beside_ready _ root _ _ _ _ _ _ _ (at_stop _ _ c.args.spot.now root _ (ends.PairBeside c.in-PairBeside.byte) c.in-PairBeside.is h) _ c.hoist.ensures.moves

pub returns-in_ok-spare-in-Absent-clause-may : goal.returns-in_ok-spare-in-Absent-clause-may
returns-in_ok-spare-in-Absent-clause-may g c =
    let q = c.requires.ends in
    let e = c.in_ok-spare-in-Absent.ensures in
    (place_may _ q.0 _ _ _ _ _ _ (at_stop _ _ c.args.spot.now q.0 _ (ends.Absent c.in-Absent.byte) c.in-Absent.is q.1) _ e.ok, e.free, e.spare)

pub returns-in_ok-spare-in-Absent-clause-ready : goal.returns-in_ok-spare-in-Absent-clause-ready
returns-in_ok-spare-in-Absent-clause-ready g c = λ root h.
    let e = c.in_ok-spare-in-Absent.ensures in
    place_ready _ root _ _ _ _ _ _ (at_stop _ _ c.args.spot.now root _ (ends.Absent c.in-Absent.byte) c.in-Absent.is h) _ e.ok c.in_ok-spare-in-Absent.spare _ e.keeps e.grown

pub returns-in_ok-make_two-in-PairDiffers-clause-ready : goal.returns-in_ok-make_two-in-PairDiffers-clause-ready
returns-in_ok-make_two-in-PairDiffers-clause-ready g c = λ root h.
    let e = c.in_ok-make_two-in-PairDiffers.ensures in
    over_pair_ready _ root _ _ _ _ _ _ _ (at_stop _ _ c.args.spot.now root _ (ends.PairDiffers c.in-PairDiffers.byte c.in-PairDiffers.at) c.in-PairDiffers.is h) _ e.table _ e.more

pub returns-in_ok-make_two-in-Differs-clause-may : goal.returns-in_ok-make_two-in-Differs-clause-may
returns-in_ok-make_two-in-Differs-clause-may g c =
    let q = c.requires.ends in
    let e = c.in_ok-make_two-in-Differs.ensures in
    let h = at_stop _ _ c.args.spot.now q.0 _ (ends.Differs c.in-Differs.at) c.in-Differs.is q.1 in
    let x = node_step _ q.0 _ _ _ _ _ _ h in
    let byte = byte_above c.args.nodes.now.table (name_of c.args.spot.now.parent) c.args.key.now c.prefix.result.now (seen_node c.args.spot.now.parent (as_linked c.node.result.now)) x.node c.node.ensures x.here (c.prefix.ensures.bytes ∙ c.base.ensures.prefix) in
    over_node_may _ q.0 _ _ _ _ _ _ h _ e.table _ byte _ e.free

pub returns-in_ok-make_two-in-Differs-clause-ready : goal.returns-in_ok-make_two-in-Differs-clause-ready
returns-in_ok-make_two-in-Differs-clause-ready g c = λ root r.
    let e = c.in_ok-make_two-in-Differs.ensures in
    let h = at_stop _ _ c.args.spot.now root _ (ends.Differs c.in-Differs.at) c.in-Differs.is r in
    let x = node_step _ root _ _ _ _ _ _ h in
    let byte = byte_above c.args.nodes.now.table (name_of c.args.spot.now.parent) c.args.key.now c.prefix.result.now (seen_node c.args.spot.now.parent (as_linked c.node.result.now)) x.node c.node.ensures x.here (c.prefix.ensures.bytes ∙ c.base.ensures.prefix) in
    over_node_ready _ root _ _ _ _ _ _ h _ e.table _ byte _ e.more
