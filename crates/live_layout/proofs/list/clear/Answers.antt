use Rattle.std.proofs.Common.{arith, ap, ◌≡◌, ◌+◌, ◌∙◌, length}
use Rattle.std.proofs.lemmas.List.{get_or-set_same, length-set}
use Rattle.live_layout.specs.Words.{at, lane}
use Rattle.live_layout.specs.ListCells.{first}
use Rattle.live_layout.proofs.StoreLaws.{zero-lane}
use Rattle.live_layout.proofs.MoveLaws.{empty-list}
use Rattle.live_layout.proofs.list.clear.Goals as goal

pub returns-clause-is : goal.returns-clause-is
returns-clause-is g c =
    let old = g.D.WriteWords.words c.args.draft.now c.args.seat.now in
    let new = g.D.WriteWords.words c.args.draft.now c.set.new.seat in
    let long : length new ≡ first c.args.room + c.args.room = ap length c.set.ensures.is ∙ length-set old 1 0 ∙ c.requires.long in
    empty-list c.args.room new long (ap (λ x. lane (at x 1) 0) c.set.ensures.is ∙ ap (λ x. lane x 0) (get_or-set_same old 1 0 0 (omega (arith, c.requires.long))) ∙ zero-lane)
