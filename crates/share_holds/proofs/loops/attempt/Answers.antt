use Rattle.share_holds.proofs.Attempts.{one_call}
use Rattle.share_holds.proofs.loops.attempt.Goals as goal

pub returns-in-Ask-clause-reached : goal.returns-in-Ask-clause-reached
returns-in-Ask-clause-reached g c =
    one_call g.Q.Asks.step c.args.f.now c.in-Ask.old c.ask-answer.result c.ask-answer.new.f c.go_on-in-Ask.new.f c.ask-answer.ensures.step c.go_on-in-Ask.ensures.reached
