use Rattle.std.proofs.Common.{sym, subst}
use Rattle.spec_olc.specs.Meaning.{meant}
use Rattle.spec_olc.specs.State.{State}
use Rattle.olc_state.specs.inner.Meant.{meant_world}
use Rattle.olc_state.proofs.States.{meant_state}
use Rattle.olc_machine.specs.Whole.{AllHaveTheirOps}
use Rattle.olc_machine.specs.inner.Inside.{inside}
use Rattle.olc_machine.proofs.Whole.{whole}
use Rattle.olc_machine.proofs.machine.Machine.calls_are_whole.Goals as goal

pub returns : goal.returns
returns g c =
    let w = inside g.A.Allocator.charge c.self.inside.inner in
    let meaning = g.P.HasMeaning.meaning in
    subst (λ (s : State g.row.P.Denot). AllHaveTheirOps (meant meaning s)) c.self.view_is
    (subst (λ (s : State g.P.HasMeaning.Meaning). AllHaveTheirOps s) (sym (meant_state meaning w)) (whole g.P.Payload.always_shared g.P.HasMeaning.same_meaning (meant_world meaning w) c.self.invariant))
