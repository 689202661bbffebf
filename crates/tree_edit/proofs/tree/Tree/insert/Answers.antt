use Rattle.std.proofs.Common.{◌∙◌, arith}
use Rattle.std.proofs.lemmas.Result.{err_from_is_err_and}
use Rattle.node_table.proofs.KeyLaws.{AreBytes-from_items}
use Rattle.tree_edit.proofs.CallLaws.{exchanged, filled, inserts, insert_refused}
use Rattle.tree_edit.proofs.CountLaws.{few_pairs}
use Rattle.tree_edit.proofs.WeightLaws.{few_counted}
use Rattle.tree_links.specs.SeenTable.{name_of}
use Rattle.tree_links.specs.Seeks.{seen_end}
use Rattle.tree_edit.proofs.GainLaws.{ends_absent, gained, spot_there}
use Rattle.tree_edit.proofs.tree.Tree.insert.Goals as goal

pub set_payload-requires : goal.set_payload-requires
set_payload-requires g c = spot_there _ _ _ _ c.seek-spot.ensures.ends c.seek-spot.ensures.pair

pub make_ready-requires-clause-ends : goal.make_ready-requires-clause-ends
make_ready-requires-clause-ends g c = (
  name_of c.self.inside.root,
  rw c.in-Err.ensures.same
      (ends_absent g.A.Allocator.charge _ _ _ _ c.self.invariant _ c.self.view_is _ (AreBytes-from_items _ (λ k l. c.fits-key k)) c.told-key c.seek-spot.result c.seek-spot.ensures.ends c.seek-spot.ensures.pair c.in-Err.ensures.absent),
)

pub make_ready-requires-clause-few : goal.make_ready-requires-clause-few
make_ready-requires-clause-few g c = few_counted _ _ _ c.self.invariant.tree c.self.invariant.by_form

pub overflow_add-self : goal.overflow_add-self
overflow_add-self g c = omega (arith, c.self.invariant.counted, few_pairs _ _ c.self.invariant.tree)

pub overflow_add-self-in-Err : goal.overflow_add-self-in-Err
overflow_add-self-in-Err g c = omega (arith, c.self.invariant.counted, few_pairs _ _ c.self.invariant.tree)

pub returns-in_err-ready-in-Err-clause-inserts : goal.returns-in_err-ready-in-Err-clause-inserts
returns-in_err-ready-in-Err-clause-inserts g c =
    let e = c.in-Err.ensures in
    let r = c.in_err-ready-in-Err.ensures in
    let p = err_from_is_err_and c.from_residual.result c.from_residual.ensures.1 in
    rw p.1 (insert_refused g.A.Allocator.charge _ _ _ _ c.self.invariant _ c.self.view_is _ (AreBytes-from_items _ (λ k l. c.fits-key k)) c.told-key (seen_end c.args.key.now c.seek-spot.result) c.seek-spot.ensures.ends _ _ _ (r.err ∙ e.same) r.same r.alike e.absent (rw e.same at r.refused) _)

pub invariant_of-self : goal.invariant_of-self
invariant_of-self g c =
    let e = rw c.in-Ok-Some.field-0-is at c.in-Ok-Some.ensures.set in
    let x = exchanged g.A.Allocator.charge _ _ _ _ c.self.invariant _ c.self.view_is _ (AreBytes-from_items _ (λ k l. c.fits-key k)) c.told-key (seen_end c.args.key.now c.seek-spot.result) c.seek-spot.ensures.ends _ _ _ e.0 e.1 in
    x.whole

pub returns-in-Ok-Some-clause-inserts : goal.returns-in-Ok-Some-clause-inserts
returns-in-Ok-Some-clause-inserts g c =
    let e = rw c.in-Ok-Some.field-0-is at c.in-Ok-Some.ensures.set in
    rw c.in-Ok-Some.field-0-is
    (inserts g.A.Allocator.charge _ _ _ _ c.self.invariant _ c.self.view_is _ (AreBytes-from_items _ (λ k l. c.fits-key k)) c.told-key (seen_end c.args.key.now c.seek-spot.result) c.seek-spot.ensures.ends _ _ _ _ _
    (exchanged g.A.Allocator.charge _ _ _ _ c.self.invariant _ c.self.view_is _ (AreBytes-from_items _ (λ k l. c.fits-key k)) c.told-key (seen_end c.args.key.now c.seek-spot.result) c.seek-spot.ensures.ends _ _ _ e.0 e.1))

pub invariant_of-self-in-Ok-None : goal.invariant_of-self-in-Ok-None
invariant_of-self-in-Ok-None g c =
    let x = filled g.A.Allocator.charge _ _ _ _ c.self.invariant _ c.self.view_is _ (AreBytes-from_items _ (λ k l. c.fits-key k)) c.told-key (seen_end c.args.key.now c.seek-spot.result) c.seek-spot.ensures.ends _ _ (rw c.in-Ok-None.field-0-is at c.in-Ok-None.ensures.set) in
    x.whole

pub returns-in-Ok-None-clause-inserts : goal.returns-in-Ok-None-clause-inserts
returns-in-Ok-None-clause-inserts g c =
    inserts g.A.Allocator.charge _ _ _ _ c.self.invariant _ c.self.view_is _ (AreBytes-from_items _ (λ k l. c.fits-key k)) c.told-key (seen_end c.args.key.now c.seek-spot.result) c.seek-spot.ensures.ends _ _ _ _ _
    (filled g.A.Allocator.charge _ _ _ _ c.self.invariant _ c.self.view_is _ (AreBytes-from_items _ (λ k l. c.fits-key k)) c.told-key (seen_end c.args.key.now c.seek-spot.result) c.seek-spot.ensures.ends _ _ (rw c.in-Ok-None.field-0-is at c.in-Ok-None.ensures.set))

pub invariant_of-self-in-Err : goal.invariant_of-self-in-Err
invariant_of-self-in-Err g c =
    let e = c.in-Err.ensures in
    let r = c.in_ok-ready-in-Err.ensures in
    let bytes = AreBytes-from_items c.args.key.now (λ k l. c.fits-key k) in
    let h = ends_absent g.A.Allocator.charge _ _ _ _ c.self.invariant _ c.self.view_is _ bytes c.told-key c.seek-spot.result c.seek-spot.ensures.ends c.seek-spot.ensures.pair e.absent in
    let y = (rw e.same at r.ready) (name_of c.self.inside.root) h _ _ (rw e.back at c.put.ensures) in
    let x = gained g.A.Allocator.charge _ _ _ _ c.self.invariant _ c.self.view_is _ bytes c.told-key (seen_end c.args.key.now c.seek-spot.result) c.seek-spot.ensures.ends _ _ _ y r.alike in
    x.whole

pub returns-in_ok-ready-in-Err-clause-inserts : goal.returns-in_ok-ready-in-Err-clause-inserts
returns-in_ok-ready-in-Err-clause-inserts g c =
    let e = c.in-Err.ensures in
    let r = c.in_ok-ready-in-Err.ensures in
    let bytes = AreBytes-from_items c.args.key.now (λ k l. c.fits-key k) in
    let h = ends_absent g.A.Allocator.charge _ _ _ _ c.self.invariant _ c.self.view_is _ bytes c.told-key c.seek-spot.result c.seek-spot.ensures.ends c.seek-spot.ensures.pair e.absent in
    let y = (rw e.same at r.ready) (name_of c.self.inside.root) h _ _ (rw e.back at c.put.ensures) in
    inserts g.A.Allocator.charge _ _ _ _ c.self.invariant _ c.self.view_is _ bytes c.told-key (seen_end c.args.key.now c.seek-spot.result) c.seek-spot.ensures.ends _ _ _ _ _
    (gained g.A.Allocator.charge _ _ _ _ c.self.invariant _ c.self.view_is _ bytes c.told-key (seen_end c.args.key.now c.seek-spot.result) c.seek-spot.ensures.ends _ _ _ y r.alike)
