use Rattle.std.proofs.Common.{Option, IsSome, refl, sym, subst, ap}
use Rattle.spec_map.specs.Map.{Pairs, lookup}
use Rattle.spec_olc.specs.Content.{IsContent}
use Rattle.spec_olc.specs.Deciding.{IsContentStep}
use Rattle.spec_olc.specs.Kinds.{IsStep}
use Rattle.spec_olc.specs.Meaning.{env_of, meant, outcome_of}
use Rattle.spec_olc.specs.Seats.{IsHanded}
use Rattle.spec_olc.specs.State.{CallState, State}
use Rattle.olc_state.specs.inner.Meant.{meant_world}
use Rattle.olc_state.specs.inner.Shown.{state_of}
use Rattle.olc_machine.specs.inner.Inside.{inside}
use Rattle.olc_machine.proofs.Handed.{flies, shown_step, shown_carries, step_known}
use Rattle.olc_machine.proofs.machine.Machine.step.Goals as goal

pub proceed-requires-clause-flies : goal.proceed-requires-clause-flies
proceed-requires-clause-flies g c =
    let w = inside g.A.Allocator.charge c.self.inside.inner in
    let known : IsHanded c.args.self.now c.args.id c.args.op.now = c.is_handed.ensures.0 c.if-not-is_handed.false in
    let flown : IsSome (lookup c.args.self.now.calls c.args.id) = subst (λ (x : Option (CallState g.row.P.Denot)). IsSome x) (sym known.in_flight) refl in
    (flies g.P.HasMeaning.meaning g.P.Payload.always_shared g.P.HasMeaning.same_meaning w c.args.id c.ranges.id.fits c.self.invariant).1
    (subst (λ (s : State g.row.P.Denot). IsSome (lookup s.calls c.args.id)) (sym c.self.view_is) flown)

pub returns-clause-known : goal.returns-clause-known
returns-clause-known g c =
    let w = inside g.A.Allocator.charge c.self.inside.inner in
    let after = inside g.A.Allocator.charge c.proceed.new.self in
    let meaning = g.P.HasMeaning.meaning in
    let known : IsHanded c.args.self.now c.args.id c.args.op.now = c.is_handed.ensures.0 c.if-not-is_handed.false in
    let never =
    step_known g.P.Payload.always_shared g.P.HasMeaning.same_meaning (state_of (meant_world meaning w)) (state_of (meant_world meaning after)) c.args.id (env_of meaning c.args.env) c.proceed.result.0
    (outcome_of meaning c.proceed.result.1) c.proceed.ensures.step
    in
    ((λ e h. never (ap (outcome_of meaning) e)), (λ f. absurd (f known)))

pub returns-clause-unknown : goal.returns-clause-unknown
returns-clause-unknown g c e =
    let w = inside g.A.Allocator.charge c.self.inside.inner in
    let after = inside g.A.Allocator.charge c.proceed.new.self in
    let meaning = g.P.HasMeaning.meaning in
    absurd
    (step_known g.P.Payload.always_shared g.P.HasMeaning.same_meaning (state_of (meant_world meaning w)) (state_of (meant_world meaning after)) c.args.id (env_of meaning c.args.env) c.proceed.result.0
    (outcome_of meaning c.proceed.result.1) c.proceed.ensures.step (ap (outcome_of meaning) e))

pub returns-clause-event : goal.returns-clause-event
returns-clause-event g c known =
    let w = inside g.A.Allocator.charge c.self.inside.inner in
    let after = inside g.A.Allocator.charge c.proceed.new.self in
    let meaning = g.P.HasMeaning.meaning in
    let out = outcome_of meaning c.proceed.result.1 in
    subst (λ (s : State g.row.P.Denot). IsStep g.P.Payload.always_shared g.P.HasMeaning.same_meaning (meant meaning s) (meant meaning (state_of after)) c.args.id (env_of meaning c.args.env) c.proceed.result.0 out) c.self.view_is
    (shown_step meaning w after c.args.id g.P.Payload.always_shared g.P.HasMeaning.same_meaning (env_of meaning c.args.env) c.proceed.result.0 out c.proceed.ensures.step)

pub returns-clause-content : goal.returns-clause-content
returns-clause-content g c known =
    let w = inside g.A.Allocator.charge c.self.inside.inner in
    let after = inside g.A.Allocator.charge c.proceed.new.self in
    let meaning = g.P.HasMeaning.meaning in
    let out = outcome_of meaning c.proceed.result.1 in
    subst (λ (s : State g.row.P.Denot). (m : Pairs g.P.HasMeaning.Meaning) → IsContent (meant meaning s) m
    → IsContentStep g.P.HasMeaning.same_meaning m (meant meaning s) (meant meaning (state_of after)) c.args.id out) c.self.view_is
    (shown_carries meaning w after c.args.id g.P.HasMeaning.same_meaning out c.proceed.ensures.carries)
