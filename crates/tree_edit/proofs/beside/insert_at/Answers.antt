use Rattle.std.proofs.Common.{◌∙◌, arith, refl}
use Rattle.std.proofs.lemmas.Result.{err_from_is_err_and}
use Rattle.node_table.proofs.KeyLaws.{AreBytes-from_items}
use Rattle.tree_edit.proofs.BesideLaws.{puts_over, puts_new, refuses}
use Rattle.tree_edit.proofs.CountLaws.{few_pairs}
use Rattle.tree_edit.proofs.WeightLaws.{few_counted}
use Rattle.tree_links.specs.SeenTable.{name_of}
use Rattle.tree_links.specs.Seeks.{seen_end}
use Rattle.tree_edit.proofs.GainLaws.{ends_absent, spot_there}
use Rattle.tree_edit.proofs.KeptLaws.{puts_kept, puts_top}
use Rattle.tree_edit.proofs.beside.insert_at.Goals as goal

pub set_payload-requires : goal.set_payload-requires
set_payload-requires g c = spot_there _ _ _ _ c.requires.ends c.requires.pair

pub overflow_add-count : goal.overflow_add-count
overflow_add-count g c = omega (arith, c.requires.whole.counted, few_pairs _ _ c.requires.whole.tree)

pub make_ready-requires-clause-few : goal.make_ready-requires-clause-few
make_ready-requires-clause-few g c = few_counted _ _ _ c.requires.whole.tree c.requires.whole.by_form

pub overflow_add-count-in-Err : goal.overflow_add-count-in-Err
overflow_add-count-in-Err g c = omega (arith, c.requires.whole.counted, few_pairs _ _ c.requires.whole.tree)

pub returns-in_err-ready-in-Err-clause-err : goal.returns-in_err-ready-in-Err-clause-err
returns-in_err-ready-in-Err-clause-err g c =
    let e = c.in-Err.ensures in
    let r = c.in_err-ready-in-Err.ensures in
    let p = err_from_is_err_and c.from_residual.result c.from_residual.ensures.1 in
    rw p.1 (refuses g.A.Allocator.charge _ _ _ _ c.requires.whole _ (AreBytes-from_items _ (λ k l. c.fits-key k)) c.told-key (seen_end c.args.key.now c.args.spot) c.requires.ends (tt {0}) c.args.payload _ _ (r.err ∙ e.same) r.same r.alike e.absent (rw e.same at r.refused))

pub returns-in-Ok-Some-clause-ok : goal.returns-in-Ok-Some-clause-ok
returns-in-Ok-Some-clause-ok g c =
    puts_kept g.A.Allocator.charge _ c.args.root _ c.args.key.now _ c.args.spot c.kept.result _ _ _
    (puts_over g.A.Allocator.charge _ _ _ _ c.requires.whole _ (AreBytes-from_items _ (λ k l. c.fits-key k)) c.told-key (seen_end c.args.key.now c.args.spot) c.requires.ends _ _ _ (rw c.in-Ok-Some.field-0-is at c.in-Ok-Some.ensures.set))
    c.kept.ensures

pub returns-in-Ok-None-clause-ok : goal.returns-in-Ok-None-clause-ok
returns-in-Ok-None-clause-ok g c =
    puts_kept g.A.Allocator.charge _ c.args.root _ c.args.key.now _ c.args.spot c.kept-in-Ok-None.result _ _ _
    (puts_new g.A.Allocator.charge _ _ _ _ c.requires.whole _ (AreBytes-from_items _ (λ k l. c.fits-key k)) c.told-key (seen_end c.args.key.now c.args.spot) c.requires.ends _ _ (rw c.in-Ok-None.field-0-is at c.in-Ok-None.ensures.set))
    c.kept-in-Ok-None.ensures

pub make_ready-requires-clause-ends : goal.make_ready-requires-clause-ends
make_ready-requires-clause-ends g c = (
  name_of c.args.root,
  rw c.in-Err.ensures.same
      (ends_absent g.A.Allocator.charge _ _ c.args.supply.now _ c.requires.whole _ refl _ (AreBytes-from_items _ (λ k l. c.fits-key k)) c.told-key c.args.spot c.requires.ends c.requires.pair c.in-Err.ensures.absent),
)

pub returns-in_ok-ready-in-Err-clause-ok : goal.returns-in_ok-ready-in-Err-clause-ok
returns-in_ok-ready-in-Err-clause-ok g c =
    let e = c.in-Err.ensures in
    let r = c.in_ok-ready-in-Err.ensures in
    let bytes = AreBytes-from_items c.args.key.now (λ k l. c.fits-key k) in
    let h = ends_absent g.A.Allocator.charge _ _ c.args.supply.now _ c.requires.whole _ refl _ bytes c.told-key c.args.spot c.requires.ends c.requires.pair e.absent in
    let y = (rw e.same at r.ready) (name_of c.args.root) h _ _ (rw e.back at c.put.ensures) in
    puts_top g.A.Allocator.charge _ c.args.root _ c.args.key.now _ _ c.requires.whole bytes c.told-key c.args.spot c.requires.ends _ _ y r.alike c.top.result c.top.ensures
