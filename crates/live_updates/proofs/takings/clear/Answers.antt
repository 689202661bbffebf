use Rattle.std.proofs.Common.{ap, ◌∙◌, sym, Some, None}
use Rattle.node_base.specs.Form.{limit}
use Rattle.live_updates.proofs.Left.{cleared}
use Rattle.live_updates.proofs.takings.clear.Goals as goal

pub returns-in-Some-clause-is : goal.returns-in-Some-clause-is
returns-in-Some-clause-is g c = λ n e f.
    cleared (g.D.WriteWords.words c.args.draft.now c.args.seat.now) (g.D.WriteWords.words c.args.draft.now c.clear.new.seat) n (Some c.in-Some.room) (ap limit f ∙ sym c.room_of.ensures.is ∙ c.in-Some.is) c.clear.ensures.head c.clear.ensures.is e

pub returns-in-None-clause-is : goal.returns-in-None-clause-is
returns-in-None-clause-is g c = λ n e f.
    cleared (g.D.WriteWords.words c.args.draft.now c.args.seat.now) (g.D.WriteWords.words c.args.draft.now c.clear-in-None.new.seat) n None (ap limit f ∙ sym c.room_of.ensures.is ∙ c.in-None.is) c.clear-in-None.ensures.head c.clear-in-None.ensures.is e
