use Rattle.text_run.proofs.Running.{serves_none}
use Rattle.text_run.proofs.session.Session.new.Goals as goal

pub returns : goal.returns
returns g c o = rw (c.in_ok-new.ensures.pairs, c.new-2.ensures, c.new-3.ensures) (serves_none o)
