use Rattle.std.proofs.Common.{ap, ◌∙◌, sym, Some, None}
use Rattle.node_base.specs.Form.{limit}
use Rattle.live_layout.proofs.StandLaws.{put-encoded}
use Rattle.live_layout.proofs.change.put.Goals as goal

pub returns-in-Some-clause-is : goal.returns-in-Some-clause-is
returns-in-Some-clause-is g c = λ n x e f i kind none.
    put-encoded (g.D.WriteWords.words c.args.draft.now c.args.seat.now) (g.D.WriteWords.words c.args.draft.now c.put.new.seat) n (Some c.in-Some.room) (ap limit f ∙ sym c.room_of.ensures.is ∙ c.in-Some.is) c.put.ensures.head e c.args.byte c.args.child x
    c.put.ensures.is i kind none

pub returns-in-None-clause-is : goal.returns-in-None-clause-is
returns-in-None-clause-is g c = λ n x e f i kind none.
    put-encoded (g.D.WriteWords.words c.args.draft.now c.args.seat.now) (g.D.WriteWords.words c.args.draft.now c.put-in-None.new.seat) n None (ap limit f ∙ sym c.room_of.ensures.is ∙ c.in-None.is) c.put-in-None.ensures.others.head e c.args.byte c.args.child x
    c.put-in-None.ensures.is i kind none
