use Rattle.std.proofs.Common.{◌∙◌, ap, arith, refl}
use Rattle.tree_edit.specs.Outside.{outside}
use Rattle.tree_edit.proofs.HandedLaws.{calls_more, none_left}
use Rattle.tree_edit.proofs.RunLaws.{ordered_here, outside-without}
use Rattle.tree_edit.proofs.TidyLaws.{moves_trans}
use Rattle.tree_edit.proofs.leaf_run.take_run.Goals as goal

pub run-init : goal.run-init
run-init g c = (c.requires.at, refl, c.requires.from, c.requires.below, omega arith, refl, c.requires.first, λ last calls. calls, c.requires.ready)

pub run-preserved : goal.run-preserved
run-preserved g c =
    let i = c.run.invariant in
    let e = c.take_beside-payload.ensures in
    let start = c.args.start in
    let ordered = ordered_here _ _ _ _ _ _ _ i.0 in
    let called = rw c.from_be_bytes-taken.ensures at c.receive.ensures.step in (
      e.at,
      ap (λ m. outside m start c.args.end) e.pairs ∙ outside-without _ start c.args.end _ i.2 i.3 ∙ i.1,
      omega (arith, c.from_be_bytes-number.ensures, c.if-number-start.false),
      omega (arith, c.from_be_bytes-number.ensures, c.if-end-number.false),
      omega (arith, e.fewer, i.4),
      moves_trans _ _ _ _ _ _ i.5 e.alike,
      none_left _ _ start _ _ e.pairs i.6 e.next,
      calls_more _ start c.args.end _ _ _ _ i.7 _ c.take_beside-payload.result _ _ ordered i.2 i.3 e.before i.6 called e.pairs,
      c.receive.ensures.ready,
    )
