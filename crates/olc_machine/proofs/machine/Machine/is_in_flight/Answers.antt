use Rattle.std.proofs.Common.{◌↔◌, IsTrue, IsSome, subst}
use Rattle.spec_map.specs.Map.{lookup}
use Rattle.spec_olc.specs.State.{State}
use Rattle.olc_machine.specs.inner.Inside.{inside}
use Rattle.olc_machine.proofs.Handed.{flies}
use Rattle.olc_machine.proofs.machine.Machine.is_in_flight.Goals as goal

pub returns : goal.returns
returns g c =
    let f = flies g.P.HasMeaning.meaning g.P.Payload.always_shared g.P.HasMeaning.same_meaning (inside g.A.Allocator.charge c.self.inside.inner) c.args.id c.ranges.id.fits c.self.invariant in
    let e = c.is_in_flight.ensures in
    subst (λ (s : State g.row.P.Denot). IsTrue c.is_in_flight.result ↔ IsSome (lookup s.calls c.args.id)) c.self.view_is
    ((λ t. f.0 (e.0 t)), (λ h. e.1 (f.1 h)))
