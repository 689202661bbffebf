use Rattle.std.proofs.Common.{◌+◌, arith}
use Rattle.live_updates.proofs.Left.{left_none}
use Rattle.live_updates.proofs.takings.take_part.Goals as goal

pub returns-then-part-eq255-clause-is : goal.returns-then-part-eq255-clause-is
returns-then-part-eq255-clause-is g c = λ n e f.
    left_none (g.D.WriteWords.words c.args.draft.now c.args.seat.now) (g.D.WriteWords.words c.args.draft.now c.clear.new.seat) n c.args.part.first (c.args.part.last + 1) (omega arith) (omega arith) e (c.clear.ensures.is n e f)
