use Rattle.std.proofs.Common.{◌∙◌, sym, arith}
use Rattle.std.proofs.lemmas.Result.{err_from_is_err_and}
use Rattle.node_table.proofs.KeyLaws.{AreBytes-from_items}
use Rattle.tree_edit.proofs.CallLaws.{nothing_seen, payload_seen, exchanged, computes, compute_refused}
use Rattle.tree_edit.proofs.CountLaws.{few_pairs}
use Rattle.tree_edit.proofs.SpotLaws.{stands_alone}
use Rattle.tree_edit.proofs.WeightLaws.{few_counted}
use Rattle.tree_links.specs.SeenTable.{name_of}
use Rattle.tree_links.specs.Seeks.{seen_end}
use Rattle.tree_edit.proofs.GainLaws.{ends_absent, gained, spot_there}
use Rattle.tree_edit.proofs.tree.Tree.compute_or_insert.Goals as goal

pub current-shown-requires : goal.current-shown-requires
current-shown-requires g c = spot_there _ _ _ _ c.seek-spot.ensures.ends c.seek-spot.ensures.pair

pub f-answer-requires : goal.f-answer-requires
f-answer-requires g c = c.requires _ (rw c.in-Some.is (sym (payload_seen g.A.Allocator.charge _ _ _ _ c.self.invariant _ c.self.view_is _ (AreBytes-from_items _ (λ k l. c.fits-key k)) c.told-key (seen_end c.args.key.now c.seek-spot.result) c.seek-spot.ensures.ends _ c.in-Some.ensures.some)))

pub change_payload-before-requires-clause-spot : goal.change_payload-before-requires-clause-spot
change_payload-before-requires-clause-spot g c = spot_there _ _ _ _ c.seek-spot.ensures.ends c.seek-spot.ensures.pair

pub change_payload-before-requires-clause-at_key : goal.change_payload-before-requires-clause-at_key
change_payload-before-requires-clause-at_key g c = stands_alone _ _ _ (seen_end c.args.key.now c.seek-spot.result) c.seek-spot.ensures.ends (AreBytes-from_items _ (λ k l. c.fits-key k)) c.told-key _ c.in-Some.ensures.some

pub make_ready-requires-clause-few : goal.make_ready-requires-clause-few
make_ready-requires-clause-few g c = few_counted _ _ _ c.self.invariant.tree c.self.invariant.by_form

pub make_ready-requires-clause-ends : goal.make_ready-requires-clause-ends
make_ready-requires-clause-ends g c = (
  name_of c.self.inside.root,
  ends_absent g.A.Allocator.charge _ _ _ _ c.self.invariant _ c.self.view_is _ (AreBytes-from_items _ (λ k l. c.fits-key k)) c.told-key c.seek-spot.result c.seek-spot.ensures.ends c.seek-spot.ensures.pair c.in-None.ensures.none,
)

pub f-payload-requires : goal.f-payload-requires
f-payload-requires g c = c.requires _ (c.nothing.ensures ∙ sym (nothing_seen g.A.Allocator.charge _ _ _ _ c.self.invariant _ c.self.view_is _ (AreBytes-from_items _ (λ k l. c.fits-key k)) c.told-key (seen_end c.args.key.now c.seek-spot.result) c.seek-spot.ensures.ends c.in-None.ensures.none))

pub overflow_add-self : goal.overflow_add-self
overflow_add-self g c = omega (arith, c.self.invariant.counted, few_pairs _ _ c.self.invariant.tree)

pub returns-in_err-ready-in-None-clause-computes : goal.returns-in_err-ready-in-None-clause-computes
returns-in_err-ready-in-None-clause-computes g c =
    let r = c.in_err-ready-in-None.ensures in
    let p = err_from_is_err_and c.from_residual.result c.from_residual.ensures.1 in
    rw p.1 (compute_refused g.A.Allocator.charge _ _ _ _ c.self.invariant _ c.self.view_is _ (AreBytes-from_items _ (λ k l. c.fits-key k)) c.told-key (seen_end c.args.key.now c.seek-spot.result) c.seek-spot.ensures.ends _ _ _ r.err r.same r.alike c.in-None.ensures.none r.refused _ _)

pub invariant_of-self : goal.invariant_of-self
invariant_of-self g c =
    let e = c.change_payload-before.ensures in
    let x = exchanged g.A.Allocator.charge _ _ _ _ c.self.invariant _ c.self.view_is _ (AreBytes-from_items _ (λ k l. c.fits-key k)) c.told-key (seen_end c.args.key.now c.seek-spot.result) c.seek-spot.ensures.ends _ _ _ e.before e.after in
    x.whole

pub returns-in-Some-clause-computes : goal.returns-in-Some-clause-computes
returns-in-Some-clause-computes g c =
    let e = c.change_payload-before.ensures in
    let x = exchanged g.A.Allocator.charge _ _ _ _ c.self.invariant _ c.self.view_is _ (AreBytes-from_items _ (λ k l. c.fits-key k)) c.told-key (seen_end c.args.key.now c.seek-spot.result) c.seek-spot.ensures.ends _ _ _ e.before e.after in
    computes g.A.Allocator.charge _ _ _ _ c.self.invariant _ c.self.view_is _ (AreBytes-from_items _ (λ k l. c.fits-key k)) c.told-key (seen_end c.args.key.now c.seek-spot.result) c.seek-spot.ensures.ends _ _ _ _ _ _ _ _ x (record { shown = _; shows = rw c.in-Some.is (sym (payload_seen g.A.Allocator.charge _ _ _ _ c.self.invariant _ c.self.view_is _ (AreBytes-from_items _ (λ k l. c.fits-key k)) c.told-key (seen_end c.args.key.now c.seek-spot.result) c.seek-spot.ensures.ends _ c.in-Some.ensures.some) ∙ sym x.was); called = c.f-answer.ensures })

pub invariant_of-self-in-None : goal.invariant_of-self-in-None
invariant_of-self-in-None g c =
    let r = c.in_ok-ready-in-None.ensures in
    let h = ends_absent g.A.Allocator.charge _ _ _ _ c.self.invariant _ c.self.view_is _ (AreBytes-from_items _ (λ k l. c.fits-key k)) c.told-key c.seek-spot.result c.seek-spot.ensures.ends c.seek-spot.ensures.pair c.in-None.ensures.none in
    let y = r.ready (name_of c.self.inside.root) h _ _ c.put.ensures in
    let x = gained g.A.Allocator.charge _ _ _ _ c.self.invariant _ c.self.view_is _ (AreBytes-from_items _ (λ k l. c.fits-key k)) c.told-key (seen_end c.args.key.now c.seek-spot.result) c.seek-spot.ensures.ends _ _ _ y r.alike in
    x.whole

pub returns-in_ok-ready-in-None-clause-computes : goal.returns-in_ok-ready-in-None-clause-computes
returns-in_ok-ready-in-None-clause-computes g c =
    let r = c.in_ok-ready-in-None.ensures in
    let h = ends_absent g.A.Allocator.charge _ _ _ _ c.self.invariant _ c.self.view_is _ (AreBytes-from_items _ (λ k l. c.fits-key k)) c.told-key c.seek-spot.result c.seek-spot.ensures.ends c.seek-spot.ensures.pair c.in-None.ensures.none in
    let y = r.ready (name_of c.self.inside.root) h _ _ c.put.ensures in
    computes g.A.Allocator.charge _ _ _ _ c.self.invariant _ c.self.view_is _ (AreBytes-from_items _ (λ k l. c.fits-key k)) c.told-key (seen_end c.args.key.now c.seek-spot.result) c.seek-spot.ensures.ends _ _ _ _ _ _ _ _
    (gained g.A.Allocator.charge _ _ _ _ c.self.invariant _ c.self.view_is _ (AreBytes-from_items _ (λ k l. c.fits-key k)) c.told-key (seen_end c.args.key.now c.seek-spot.result) c.seek-spot.ensures.ends _ _ _ y r.alike)
    (record { shown = _; shows = c.nothing.ensures; called = c.f-payload.ensures })
