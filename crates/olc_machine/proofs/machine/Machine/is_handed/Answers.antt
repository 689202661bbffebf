use Rattle.std.proofs.Common.{◌↔◌, IsTrue, subst}
use Rattle.spec_olc.specs.Seats.{IsHanded}
use Rattle.spec_olc.specs.State.{State}
use Rattle.olc_machine.proofs.machine.Machine.is_handed.Goals as goal

pub returns : goal.returns
returns g c = subst (λ (s : State g.row.P.Denot). IsTrue c.is_handed.result ↔ IsHanded s c.args.id c.args.op.now) c.self.view_is c.is_handed.ensures
