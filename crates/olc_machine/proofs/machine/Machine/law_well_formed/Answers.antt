use Rattle.std.proofs.Common.{sym, subst}
use Rattle.spec_olc.specs.Meaning.{meant}
use Rattle.spec_olc.specs.State.{State}
use Rattle.spec_olc.specs.WellFormed.{IsWellFormed}
use Rattle.olc_state.specs.inner.Meant.{meant_world}
use Rattle.olc_state.proofs.Formed.{well_formed}
use Rattle.olc_state.proofs.States.{meant_state}
use Rattle.olc_machine.specs.inner.Inside.{inside}
use Rattle.olc_machine.proofs.machine.Machine.law_well_formed.Goals as goal

pub returns : goal.returns
returns g c =
    let w = inside g.A.Allocator.charge c.self.inside.inner in
    let meaning = g.P.HasMeaning.meaning in
    subst (λ (s : State g.row.P.Denot). IsWellFormed (meant meaning s)) c.self.view_is
    (subst (λ (s : State g.P.HasMeaning.Meaning). IsWellFormed s) (sym (meant_state meaning w)) (well_formed g.P.Payload.always_shared g.P.HasMeaning.same_meaning (meant_world meaning w) c.self.invariant))
