use Rattle.std.proofs.Common.{◌≡◌, ◌∙◌, Some, None, map, subst, sym, true, refl}
use Rattle.node_table.proofs.KeyLaws.{AreBytes-from_items}
use Rattle.tree_path.specs.inner.Descent.{SeeksTo}
use Rattle.tree_edit.specs.inner.Rise.{IsRemoval, IsWholeBefore}
use Rattle.tree_edit.proofs.CallLaws.{ordered, nothing_seen, payload_seen, exchanged}
use Rattle.tree_edit.proofs.SpotLaws.{stands_alone}
use Rattle.tree_links.specs.SeenTable.{name_of}
use Rattle.tree_links.specs.Seeks.{seen_end}
use Rattle.tree_edit.proofs.GainLaws.{spot_there}
use Rattle.tree_edit.proofs.RemovedLaws.{root_first, whole_before, taken_out}
use Rattle.tree_edit.proofs.tree.Tree.compute_if_present.Goals as goal

pub current-requires : goal.current-requires
current-requires g c = spot_there _ _ _ _ c.seek_along-spot.ensures.ends c.seek_along-spot.ensures.pair

pub f-requires : goal.f-requires
f-requires g c = c.requires _ (payload_seen g.A.Allocator.charge _ _ _ _ c.self.invariant _ c.self.view_is _ (AreBytes-from_items _ (λ k l. c.fits-key k)) c.told-key (seen_end c.args.key.now c.seek_along-spot.result) c.seek_along-spot.ensures.ends _ c.in-Some.ensures.some) c.in-Some.payload refl

pub change_payload-before-requires-clause-spot : goal.change_payload-before-requires-clause-spot
change_payload-before-requires-clause-spot g c = spot_there _ _ _ _ c.seek_along-spot.ensures.ends c.seek_along-spot.ensures.pair

pub change_payload-before-requires-clause-at_key : goal.change_payload-before-requires-clause-at_key
change_payload-before-requires-clause-at_key g c = stands_alone _ _ _ (seen_end c.args.key.now c.seek_along-spot.result) c.seek_along-spot.ensures.ends (AreBytes-from_items _ (λ k l. c.fits-key k)) c.told-key _ c.in-Some.ensures.some

pub take_out-requires-clause-spot : goal.take_out-requires-clause-spot
take_out-requires-clause-spot g c =
    let x = c.seek_along-spot.ensures in
    subst (λ r. SeeksTo c.self.inside.nodes.table r c.args.key.now (seen_end c.args.key.now c.seek_along-spot.result)) (sym (root_first _ _ _ _ _ x.trail)) x.ends

pub take_out-requires-clause-whole : goal.take_out-requires-clause-whole
take_out-requires-clause-whole g c =
    let x = c.seek_along-spot.ensures in
    subst (λ r. IsWholeBefore c.self.inside.nodes.table r c.args.key.now (map name_of c.seek_along-spot.new.trail) c.seek_along-spot.result.above c.self.inside.supply.forms) (sym (root_first _ _ _ _ _ x.trail))
    (whole_before g.A.Allocator.charge _ _ c.self.inside.supply _ c.self.invariant _ c.self.view_is c.args.key.now (AreBytes-from_items _ (λ k l. c.fits-key k)) c.told-key _ _ x.trail)

pub unreachable-requires : goal.unreachable-requires
unreachable-requires g c = stands_alone _ _ _ (seen_end c.args.key.now c.seek_along-spot.result) c.seek_along-spot.ensures.ends (AreBytes-from_items _ (λ k l. c.fits-key k)) c.told-key _ c.in-Some.ensures.some c.in_default-take_out.ensures.none

pub returns-in_default-clause-ordered : goal.returns-in_default-clause-ordered
returns-in_default-clause-ordered g c = ordered g.A.Allocator.charge _ _ _ _ c.self.invariant _ c.self.view_is

pub returns-in_default-clause-computes : goal.returns-in_default-clause-computes
returns-in_default-clause-computes g c =
    let none = nothing_seen g.A.Allocator.charge _ _ _ _ c.self.invariant _ c.self.view_is _ (AreBytes-from_items _ (λ k l. c.fits-key k)) c.told-key (seen_end c.args.key.now c.seek_along-spot.result) c.seek_along-spot.ensures.ends c.in_default.ensures.none in
    record { before = sym none; absent = λ _. (refl, refl); present = λ current is. absurd (let clash = sym none ∙ is in cc); charged = refl }

pub returns-in-Some-f-clause-ordered : goal.returns-in-Some-f-clause-ordered
returns-in-Some-f-clause-ordered g c = ordered g.A.Allocator.charge _ _ _ _ c.self.invariant _ c.self.view_is

pub returns-in-Some-take_out-clause-ordered : goal.returns-in-Some-take_out-clause-ordered
returns-in-Some-take_out-clause-ordered g c = ordered g.A.Allocator.charge _ _ _ _ c.self.invariant _ c.self.view_is

pub invariant_of-self : goal.invariant_of-self
invariant_of-self g c =
    let e = c.change_payload-before.ensures in
    let x = exchanged g.A.Allocator.charge _ _ _ _ c.self.invariant _ c.self.view_is _ (AreBytes-from_items _ (λ k l. c.fits-key k)) c.told-key (seen_end c.args.key.now c.seek_along-spot.result) c.seek_along-spot.ensures.ends _ _ _ e.before e.after in
    x.whole

pub returns-in-Some-f-clause-computes : goal.returns-in-Some-f-clause-computes
returns-in-Some-f-clause-computes g c =
    let e = c.change_payload-before.ensures in
    let x = exchanged g.A.Allocator.charge _ _ _ _ c.self.invariant _ c.self.view_is _ (AreBytes-from_items _ (λ k l. c.fits-key k)) c.told-key (seen_end c.args.key.now c.seek_along-spot.result) c.seek_along-spot.ensures.ends _ _ _ e.before e.after in
    let found = payload_seen g.A.Allocator.charge _ _ _ _ c.self.invariant _ c.self.view_is _ (AreBytes-from_items _ (λ k l. c.fits-key k)) c.told-key (seen_end c.args.key.now c.seek_along-spot.result) c.seek_along-spot.ensures.ends _ c.in-Some.ensures.some in
    record {
      before = x.was;
      absent = λ none. absurd (let clash = sym found ∙ none in cc);
      present = λ current is.
          let both : Some c.in-Some.payload.now ≡ Some current = sym found ∙ is in
          (Some c.in-Some-f.answer, record { shown = c.in-Some.payload; shows = (cc); called = c.in-Some-f.ensures }, x.pairs, x.shape);
      charged = x.charges;
    }

pub overflow_sub-self : goal.overflow_sub-self
overflow_sub-self g c =
    let e = c.in-Some-take_out.ensures in
    let removal = subst (λ r. IsRemoval c.self.inside.nodes.table r c.args.key.now true c.take_out.new.nodes.table c.take_out.new.supply.forms) (root_first _ _ _ _ _ c.seek_along-spot.ensures.trail) (e.taken refl) in
    let x = taken_out g.A.Allocator.charge _ _ _ _ c.self.invariant _ c.self.view_is _ (AreBytes-from_items _ (λ k l. c.fits-key k)) c.told-key (seen_end c.args.key.now c.seek_along-spot.result) c.seek_along-spot.ensures.ends true c.take_out.new.nodes.table _ c.take_out.new.supply e.before removal c.take_out.ensures.alike in
    x.some

pub invariant_of-self-in-None : goal.invariant_of-self-in-None
invariant_of-self-in-None g c =
    let e = c.in-Some-take_out.ensures in
    let removal = subst (λ r. IsRemoval c.self.inside.nodes.table r c.args.key.now true c.take_out.new.nodes.table c.take_out.new.supply.forms) (root_first _ _ _ _ _ c.seek_along-spot.ensures.trail) (e.taken refl) in
    let x = taken_out g.A.Allocator.charge _ _ _ _ c.self.invariant _ c.self.view_is _ (AreBytes-from_items _ (λ k l. c.fits-key k)) c.told-key (seen_end c.args.key.now c.seek_along-spot.result) c.seek_along-spot.ensures.ends true c.take_out.new.nodes.table _ c.take_out.new.supply e.before removal c.take_out.ensures.alike in
    x.whole

pub returns-in-Some-take_out-clause-computes : goal.returns-in-Some-take_out-clause-computes
returns-in-Some-take_out-clause-computes g c =
    let e = c.in-Some-take_out.ensures in
    let removal = subst (λ r. IsRemoval c.self.inside.nodes.table r c.args.key.now true c.take_out.new.nodes.table c.take_out.new.supply.forms) (root_first _ _ _ _ _ c.seek_along-spot.ensures.trail) (e.taken refl) in
    let x = taken_out g.A.Allocator.charge _ _ _ _ c.self.invariant _ c.self.view_is _ (AreBytes-from_items _ (λ k l. c.fits-key k)) c.told-key (seen_end c.args.key.now c.seek_along-spot.result) c.seek_along-spot.ensures.ends true c.take_out.new.nodes.table _ c.take_out.new.supply e.before removal c.take_out.ensures.alike in
    let found = payload_seen g.A.Allocator.charge _ _ _ _ c.self.invariant _ c.self.view_is _ (AreBytes-from_items _ (λ k l. c.fits-key k)) c.told-key (seen_end c.args.key.now c.seek_along-spot.result) c.seek_along-spot.ensures.ends _ c.in-Some.ensures.some in
    rw c.release_slots.ensures
    (record {
      before = x.removes.before;
      absent = λ none. absurd (let clash = sym found ∙ none in cc);
      present = λ current is.
          let both : Some c.in-Some.payload.now ≡ Some current = sym found ∙ is in
          (None, record { shown = c.in-Some.payload; shows = (cc); called = c.in-None.ensures }, x.removes.pairs, x.removes.shape);
      charged = x.removes.charged;
    })
