use Rattle.std.proofs.Common.{get_or, map, refl, subst, sym}
use Rattle.std.specs.Int.{to_be_bytes, w64}
use Rattle.tree_path.specs.inner.Descent.{SeeksTo}
use Rattle.tree_edit.specs.inner.Rise.{IsRemoval, IsWholeBefore}
use Rattle.tree_links.specs.SeenTable.{name_of}
use Rattle.tree_links.specs.Seeks.{seen_end, KnowsPair}
use Rattle.tree_edit.specs.inner.Spots.{HasThere, LacksThere}
use Rattle.tree_edit.proofs.PopLaws.{key_bytes, pop_found, popped}
use Rattle.tree_edit.proofs.RemovedLaws.{root_first, whole_before}
use Rattle.tree_edit.proofs.tree.Tree.pop.Goals as goal

pub take_out-requires-clause-spot : goal.take_out-requires-clause-spot
take_out-requires-clause-spot g c =
    let x = c.in-Some.ensures in
    subst (λ k. SeeksTo c.self.inside.nodes.table (name_of (get_or c.seek_end.new.trail 0 0)) k (seen_end k c.in-Some.spot)) (sym c.to_be_bytes-bytes.ensures)
    (subst (λ r. SeeksTo c.self.inside.nodes.table r (to_be_bytes w64 c.in-Some.key) (seen_end (to_be_bytes w64 c.in-Some.key) c.in-Some.spot)) (sym (root_first _ _ _ _ _ x.trail)) x.ends)

pub take_out-requires-clause-pair : goal.take_out-requires-clause-pair
take_out-requires-clause-pair g c = subst (λ k. KnowsPair c.self.inside.nodes.table k c.in-Some.spot) (sym c.to_be_bytes-bytes.ensures) c.in-Some.ensures.pair

pub take_out-requires-clause-whole : goal.take_out-requires-clause-whole
take_out-requires-clause-whole g c =
    let x = c.in-Some.ensures in
    subst (λ k. IsWholeBefore c.self.inside.nodes.table (name_of (get_or c.seek_end.new.trail 0 0)) k (map name_of c.seek_end.new.trail) c.in-Some.spot.above c.self.inside.supply.forms) (sym c.to_be_bytes-bytes.ensures)
    (subst (λ r. IsWholeBefore c.self.inside.nodes.table r (to_be_bytes w64 c.in-Some.key) (map name_of c.seek_end.new.trail) c.in-Some.spot.above c.self.inside.supply.forms) (sym (root_first _ _ _ _ _ x.trail))
    (whole_before g.A.Allocator.charge _ _ c.self.inside.supply _ c.self.invariant _ c.self.view_is (to_be_bytes w64 c.in-Some.key) (key_bytes c.in-Some.key) refl _ _ x.trail))

pub unreachable-requires : goal.unreachable-requires
unreachable-requires g c =
    let x = c.in-Some.ensures in
    let none = subst (λ k. LacksThere c.self.inside.nodes.table k c.in-Some.spot) c.to_be_bytes-bytes.ensures c.in_default-take_out.ensures.none in
    pop_found g.A.Allocator.charge _ _ _ _ c.self.invariant _ c.self.view_is c.args.side c.in-Some.key x.key (seen_end (to_be_bytes w64 c.in-Some.key) c.in-Some.spot) x.ends none

pub overflow_sub-self : goal.overflow_sub-self
overflow_sub-self g c =
    let e = c.in-Some-take_out.ensures in
    let x = c.in-Some.ensures in
    let there = subst (λ k. HasThere c.self.inside.nodes.table k c.in-Some.spot c.in-Some-take_out.payload) c.to_be_bytes-bytes.ensures e.before in
    let removal = subst (λ r. IsRemoval c.self.inside.nodes.table r (to_be_bytes w64 c.in-Some.key) c.args.shrinks c.take_out.new.nodes.table c.take_out.new.supply.forms) (root_first _ _ _ _ _ x.trail)
    (subst (λ k. IsRemoval c.self.inside.nodes.table (name_of (get_or c.seek_end.new.trail 0 0)) k c.args.shrinks c.take_out.new.nodes.table c.take_out.new.supply.forms) c.to_be_bytes-bytes.ensures (e.taken refl)) in
    (popped g.A.Allocator.charge _ _ _ _ c.self.invariant _ c.self.view_is c.args.side c.in-Some.key x.key (seen_end (to_be_bytes w64 c.in-Some.key) c.in-Some.spot) x.ends c.args.shrinks c.take_out.new.nodes.table _ c.take_out.new.supply there removal c.take_out.ensures.alike).some

pub invariant_of-self : goal.invariant_of-self
invariant_of-self g c =
    let e = c.in-Some-take_out.ensures in
    let x = c.in-Some.ensures in
    let there = subst (λ k. HasThere c.self.inside.nodes.table k c.in-Some.spot c.in-Some-take_out.payload) c.to_be_bytes-bytes.ensures e.before in
    let removal = subst (λ r. IsRemoval c.self.inside.nodes.table r (to_be_bytes w64 c.in-Some.key) c.args.shrinks c.take_out.new.nodes.table c.take_out.new.supply.forms) (root_first _ _ _ _ _ x.trail)
    (subst (λ k. IsRemoval c.self.inside.nodes.table (name_of (get_or c.seek_end.new.trail 0 0)) k c.args.shrinks c.take_out.new.nodes.table c.take_out.new.supply.forms) c.to_be_bytes-bytes.ensures (e.taken refl)) in
    (popped g.A.Allocator.charge _ _ _ _ c.self.invariant _ c.self.view_is c.args.side c.in-Some.key x.key (seen_end (to_be_bytes w64 c.in-Some.key) c.in-Some.spot) x.ends c.args.shrinks c.take_out.new.nodes.table _ c.take_out.new.supply there removal c.take_out.ensures.alike).whole

pub returns-clause-pair : goal.returns-clause-pair
returns-clause-pair g c =
    let e = c.in-Some-take_out.ensures in
    let x = c.in-Some.ensures in
    let there = subst (λ k. HasThere c.self.inside.nodes.table k c.in-Some.spot c.in-Some-take_out.payload) c.to_be_bytes-bytes.ensures e.before in
    let removal = subst (λ r. IsRemoval c.self.inside.nodes.table r (to_be_bytes w64 c.in-Some.key) c.args.shrinks c.take_out.new.nodes.table c.take_out.new.supply.forms) (root_first _ _ _ _ _ x.trail)
    (subst (λ k. IsRemoval c.self.inside.nodes.table (name_of (get_or c.seek_end.new.trail 0 0)) k c.args.shrinks c.take_out.new.nodes.table c.take_out.new.supply.forms) c.to_be_bytes-bytes.ensures (e.taken refl)) in
    (popped g.A.Allocator.charge _ _ _ _ c.self.invariant _ c.self.view_is c.args.side c.in-Some.key x.key (seen_end (to_be_bytes w64 c.in-Some.key) c.in-Some.spot) x.ends c.args.shrinks c.take_out.new.nodes.table _ c.take_out.new.supply there removal c.take_out.ensures.alike).pair

pub returns-clause-removes : goal.returns-clause-removes
returns-clause-removes g c =
    let e = c.in-Some-take_out.ensures in
    let x = c.in-Some.ensures in
    let there = subst (λ k. HasThere c.self.inside.nodes.table k c.in-Some.spot c.in-Some-take_out.payload) c.to_be_bytes-bytes.ensures e.before in
    let removal = subst (λ r. IsRemoval c.self.inside.nodes.table r (to_be_bytes w64 c.in-Some.key) c.args.shrinks c.take_out.new.nodes.table c.take_out.new.supply.forms) (root_first _ _ _ _ _ x.trail)
    (subst (λ k. IsRemoval c.self.inside.nodes.table (name_of (get_or c.seek_end.new.trail 0 0)) k c.args.shrinks c.take_out.new.nodes.table c.take_out.new.supply.forms) c.to_be_bytes-bytes.ensures (e.taken refl)) in
    rw c.release_slots.ensures ((popped g.A.Allocator.charge _ _ _ _ c.self.invariant _ c.self.view_is c.args.side c.in-Some.key x.key (seen_end (to_be_bytes w64 c.in-Some.key) c.in-Some.spot) x.ends c.args.shrinks c.take_out.new.nodes.table _ c.take_out.new.supply there removal c.take_out.ensures.alike).removes)

pub returns-clause-in_place : goal.returns-clause-in_place
returns-clause-in_place g c =
    let e = c.in-Some-take_out.ensures in
    let x = c.in-Some.ensures in
    let there = subst (λ k. HasThere c.self.inside.nodes.table k c.in-Some.spot c.in-Some-take_out.payload) c.to_be_bytes-bytes.ensures e.before in
    let removal = subst (λ r. IsRemoval c.self.inside.nodes.table r (to_be_bytes w64 c.in-Some.key) c.args.shrinks c.take_out.new.nodes.table c.take_out.new.supply.forms) (root_first _ _ _ _ _ x.trail)
    (subst (λ k. IsRemoval c.self.inside.nodes.table (name_of (get_or c.seek_end.new.trail 0 0)) k c.args.shrinks c.take_out.new.nodes.table c.take_out.new.supply.forms) c.to_be_bytes-bytes.ensures (e.taken refl)) in
    rw c.release_slots.ensures ((popped g.A.Allocator.charge _ _ _ _ c.self.invariant _ c.self.view_is c.args.side c.in-Some.key x.key (seen_end (to_be_bytes w64 c.in-Some.key) c.in-Some.spot) x.ends c.args.shrinks c.take_out.new.nodes.table _ c.take_out.new.supply there removal c.take_out.ensures.alike).in_place)
