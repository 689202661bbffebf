use Rattle.std.proofs.Common.{refl, ◌∙◌, arith}
use Rattle.tree_edit.proofs.BesideLaws.{put_next}
use Rattle.tree_edit.proofs.TidyLaws.{moves_trans}
use Rattle.tree_edit.proofs.KeptLaws.{reached_top}
use Rattle.tree_edit.proofs.beside.insert_all.Goals as goal

pub loop-inserted-init : goal.loop-inserted-init
loop-inserted-init g c = (c.requires.whole, reached_top _ _ c.requires.whole.tree c.top-last.result c.top-last.ensures, refl, refl)

pub loop-inserted-preserved : goal.loop-inserted-preserved
loop-inserted-preserved g c =
    let x = c.in-Ok.ensures.ok in
    let pairs = put_next g.K.Word.number g.V.Word.number _ _ c.args.pairs.now c.loop-inserted.inserted c.index-pairs-inserted.result _ _ (omega (arith, c.loop-inserted-test.true))
    c.index-pairs-inserted.is c.into_u64-number.ensures c.into_u64.ensures c.loop-inserted.invariant.2 in
    (x.whole, x.reached, x.pairs ∙ pairs, moves_trans _ _ _ _ _ _ c.loop-inserted.invariant.3 x.alike)
