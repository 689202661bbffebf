use Rattle.std.proofs.Common.{subst, sym, Some}
use Rattle.node_base.specs.Form.{form_place}
use Rattle.live_layout.specs.Head.{IsHead}
use Rattle.live_layout.specs.ListCells.{HasList}
use Rattle.live_layout.proofs.StandLaws.{moved-encoded}
use Rattle.live_layout.proofs.fill.copy_list.Goals as goal

pub returns-clause-is : goal.returns-clause-is
returns-clause-is g c = λ n e o.
    let from = g.D.WriteWords.words c.args.from.now in
    let new = g.E.WriteWords.words c.args.to.now c.copy.new.seat in
    let kept = (c.requires.apart c.args.seat.now c.lay_head.new.seat c.lay_head.ensures.seat.others c.requires.may.0).1 in
    let head = subst (λ k. IsHead k (form_place c.args.other) n.prefix) (sym c.copy.ensures.head) (c.lay_head.ensures.is (form_place n.form) n.prefix e.head) in
    moved-encoded (from c.args.seat.now) new n c.args.other (Some c.args.room) (Some c.args.other_room) o c.requires.rooms.2 head (λ es h. c.copy.ensures.is es (subst (λ x. HasList c.args.room x es) (sym kept) h)) e
