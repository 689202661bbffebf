use Rattle.std.proofs.Common.{◌≡◌, None, true, sym, subst, ◌∙◌}
use Rattle.std.proofs.lemmas.Bool.{false≢true}
use Rattle.spec_map.specs.Map.{lookup}
use Rattle.spec_olc.specs.Kinds.{IsStart}
use Rattle.spec_olc.specs.Lists.{is_in}
use Rattle.spec_olc.specs.Meaning.{meant, op_of}
use Rattle.spec_olc.specs.State.{State}
use Rattle.olc_state.specs.inner.Shown.{state_of}
use Rattle.olc_state.proofs.States.{shown_seat}
use Rattle.olc_machine.specs.inner.Inside.{inside}
use Rattle.olc_machine.proofs.Handed.{none_there, shown_start, unrecorded}
use Rattle.olc_machine.proofs.machine.Machine.start.Goals as goal

pub begin-requires-clause-free : goal.begin-requires-clause-free
begin-requires-clause-free g c =
    let w = inside g.A.Allocator.charge c.self.inside.inner in
    let none = none_there (lookup c.args.self.now.calls c.args.id) (λ h. false≢true (sym c.if-is_in_flight.false ∙ c.is_in_flight.ensures.1 h)) in
    unrecorded g.P.HasMeaning.meaning g.P.Payload.always_shared g.P.HasMeaning.same_meaning w c.args.id c.ranges.id.fits c.self.invariant
    (subst (λ (s : State g.row.P.Denot). lookup s.calls c.args.id ≡ None) (sym c.self.view_is) none)

pub returns-in-Err-begin-clause-granted : goal.returns-in-Err-begin-clause-granted
returns-in-Err-begin-clause-granted g c always seated none =
    let w = inside g.A.Allocator.charge c.self.inside.inner in
    c.in-Err-begin.ensures.granted (sym (shown_seat w c.args.id) ∙ subst (λ (s : State g.row.P.Denot). is_in c.args.id s.seats ≡ true) (sym c.self.view_is) seated)

pub returns-clause-ok : goal.returns-clause-ok
returns-clause-ok g c =
    let w = inside g.A.Allocator.charge c.self.inside.inner in
    let after = inside g.A.Allocator.charge c.begin.new.self in
    let meaning = g.P.HasMeaning.meaning in
    subst (λ (s : State g.row.P.Denot). IsStart (meant meaning s) (meant meaning (state_of after)) c.args.id (op_of meaning c.args.op.now) c.in-Ok-begin.report) c.self.view_is
    (shown_start meaning w after c.args.id c.in-Ok.op c.args.op.now c.in-Ok-begin.report c.in-Ok.ensures.meaning c.in-Ok-begin.ensures.ok.start)
