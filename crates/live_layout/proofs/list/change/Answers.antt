use Rattle.std.proofs.Common.{ap, ◌+◌, ◌∙◌, set, subst, sym}
use Rattle.spec_map.specs.Map.{put}
use Rattle.live_layout.specs.ListCells.{HasList, key}
use Rattle.live_layout.proofs.StoreLaws.{change-encodes}
use Rattle.live_layout.proofs.list.change.Goals as goal

pub returns-clause-is : goal.returns-clause-is
returns-clause-is g c = λ es h inside.
    let old = g.D.WriteWords.words c.args.draft.now c.args.seat.now in
    let e = c.set.ensures.is ∙ ap (λ x. set old (x + c.args.place) c.args.child) c.first_child.ensures in
    subst (λ x. HasList c.args.room x (put es (key old c.args.place) c.args.child)) (sym e) (change-encodes c.args.room old es c.args.place c.args.child inside h)
