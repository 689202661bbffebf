use Rattle.std.proofs.Common.{ap, ◌∙◌, sym, Some, None}
use Rattle.node_base.specs.Form.{limit}
use Rattle.live_layout.proofs.StandLaws.{found-child, if_some, take-encoded}
use Rattle.live_layout.proofs.change.take.Goals as goal

pub returns-in-Some-clause-was : goal.returns-in-Some-clause-was
returns-in-Some-clause-was g c = λ n e f.
    found-child (g.D.WriteWords.words c.args.draft.now c.args.seat.now) n c.args.byte c.take_from_list.result (Some c.in-Some.room) (ap limit f ∙ sym c.room_of.ensures.is ∙ c.in-Some.is) e c.take_from_list.ensures.was

pub returns-in-Some-clause-is : goal.returns-in-Some-clause-is
returns-in-Some-clause-is g c =
    if_some c.take_from_list.result
    (λ _ wrote n e f. take-encoded (g.D.WriteWords.words c.args.draft.now c.args.seat.now) (g.D.WriteWords.words c.args.draft.now c.take_from_list.new.seat) n (Some c.in-Some.room) (ap limit f ∙ sym c.room_of.ensures.is ∙ c.in-Some.is) c.take_from_list.ensures.head e c.args.byte wrote)
    c.take_from_list.ensures.is

pub returns-in-None-clause-was : goal.returns-in-None-clause-was
returns-in-None-clause-was g c = λ n e f.
    found-child (g.D.WriteWords.words c.args.draft.now c.args.seat.now) n c.args.byte c.take_from_places.result None (ap limit f ∙ sym c.room_of.ensures.is ∙ c.in-None.is) e c.take_from_places.ensures.was

pub returns-in-None-clause-is : goal.returns-in-None-clause-is
returns-in-None-clause-is g c =
    if_some c.take_from_places.result
    (λ _ wrote n e f. take-encoded (g.D.WriteWords.words c.args.draft.now c.args.seat.now) (g.D.WriteWords.words c.args.draft.now c.take_from_places.new.seat) n None (ap limit f ∙ sym c.room_of.ensures.is ∙ c.in-None.is) c.take_from_places.ensures.head e c.args.byte wrote)
    c.take_from_places.ensures.is
