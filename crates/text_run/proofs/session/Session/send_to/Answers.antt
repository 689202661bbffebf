use Rattle.std.proofs.lemmas.Result.{on_err_weaker}
use Rattle.text_run.proofs.Running.{breaks}
use Rattle.text_run.proofs.session.Session.send_to.Goals as goal

pub returns-clause-err : goal.returns-clause-err
returns-clause-err g c old bytes s = on_err_weaker c.send_to.result (λ b. breaks s b.1) c.send_to.ensures.broken
