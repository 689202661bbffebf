use Rattle.std.proofs.Common.{rules, ◌≡◌, Some, None, IsSome, IsTrue, sym, subst, refl, ◌∙◌}
use Rattle.olc_state.specs.inner.Places.{ChangesPlace}
use Rattle.olc_machine.specs.inner.Inside.{inside}
use Rattle.olc_machine.proofs.Handed.{no_pin}
use Rattle.olc_machine.proofs.Happened.{knows, last_stays, none_left, turns_last, turns_some}
use Rattle.olc_machine.proofs.Inners.{never_seated, then_changes, written_through}
use Rattle.olc_machine.proofs.Stocked.{sound_counted, sound_kept}
use Rattle.olc_machine.proofs.inner.Inner.proceed.Goals as goal

pub unreachable-requires : goal.unreachable-requires
unreachable-requires g c =
    no_pin g.P.HasMeaning.meaning g.P.Payload.always_shared g.P.HasMeaning.same_meaning (inside g.A.Allocator.charge c.args.self.now) c.args.id c.ranges.id.fits c.requires.sound c.requires.flies (sym c.pin.ensures ∙ c.in_default.is)

pub happen-event-requires-clause-kept : goal.happen-event-requires-clause-kept
happen-event-requires-clause-kept g c =
    sound_kept g.P.HasMeaning.meaning g.A.Allocator.charge g.P.Payload.always_shared g.P.HasMeaning.same_meaning c.args.self.now.stock c.args.self.now.calls c.requires.sound

pub happen-event-requires-clause-facts : goal.happen-event-requires-clause-facts
happen-event-requires-clause-facts g c =
    knows g.P.HasMeaning.meaning g.A.Allocator.charge g.P.Payload.always_shared g.P.HasMeaning.same_meaning c.args.self.now.stock c.args.self.now.calls c.requires.sound c.args.id c.ranges.id.fits c.in-Some.pin
    (sym c.pin.ensures ∙ c.in-Some.is) c.in-Some-get_mut.place.now c.in-Some-get_mut.ensures.value

pub happen-event-requires-clause-counted : goal.happen-event-requires-clause-counted
happen-event-requires-clause-counted g c =
    sound_counted g.P.HasMeaning.meaning g.A.Allocator.charge g.P.Payload.always_shared g.P.HasMeaning.same_meaning c.args.self.now.stock c.args.self.now.calls c.requires.sound

pub returns-then-is_some : goal.returns-then-is_some
returns-then-is_some g c =
    let calls = c.args.self.now.calls in
    let after = c.happen-event.new.place in
    let at = c.in-Some-get_mut.ensures.value in
    let written = written_through calls (c.get_mut.follows.lender after) c.args.id after (subst (λ x. IsSome x) at refl) (c.get_mut.follows.holds after) in
    turns_some g.P.HasMeaning.meaning g.A.Allocator.charge g.P.Payload.always_shared g.P.HasMeaning.same_meaning c.args.self.now.stock calls c.requires.sound c.args.id c.ranges.id.fits c.in-Some.pin
    (sym c.pin.ensures ∙ c.in-Some.is) c.in-Some-get_mut.place.now at c.requires.flies c.args.env c.happen-event.result.0 c.happen-event.result.1 c.happen-event.new.stock after (c.get_mut.follows.lender after)
    (subst (λ b. IsTrue b) c.is_some.ensures c.if-is_some.true) c.happen-event.ensures written

pub leave-requires : goal.leave-requires
leave-requires g c =
    let after = c.happen-event.new.place in
    let pinned = sym c.pin.ensures ∙ c.in-Some.is in
    let gone : after ≡ None = none_left after (sym c.if-is_some.false ∙ c.is_some.ensures) in
    let stays =
    last_stays g.P.HasMeaning.meaning g.A.Allocator.charge g.P.Payload.always_shared g.P.HasMeaning.same_meaning c.args.self.now.stock c.args.self.now.calls c.requires.sound c.args.id c.ranges.id.fits c.in-Some.pin pinned
    c.in-Some-get_mut.place.now c.in-Some-get_mut.ensures.value c.requires.flies c.args.env c.happen-event.result.0 c.happen-event.result.1 c.happen-event.new.stock (rw gone at c.happen-event.ensures)
    in
    rw stays (subst (λ x. IsSome x) (sym pinned) refl)

pub returns-then-not-is_seated : goal.returns-then-not-is_seated
returns-then-not-is_seated g c =
    let calls = c.args.self.now.calls in
    let after = c.happen-event.new.place in
    let at = c.in-Some-get_mut.ensures.value in
    let gone : after ≡ None = none_left after (sym c.if-is_some.false ∙ c.is_some.ensures) in
    let made = rw gone at c.happen-event.ensures in
    let written =
    subst (λ x. ChangesPlace calls.entries (c.get_mut.follows.lender after).entries c.args.id (Some x)) gone
    (written_through calls (c.get_mut.follows.lender after) c.args.id after (subst (λ x. IsSome x) at refl) (c.get_mut.follows.holds after))
    in
    turns_last g.P.HasMeaning.meaning g.A.Allocator.charge g.P.Payload.always_shared g.P.HasMeaning.same_meaning c.args.self.now.stock calls c.requires.sound c.args.id c.ranges.id.fits c.in-Some.pin (sym c.pin.ensures ∙ c.in-Some.is)
    c.in-Some-get_mut.place.now at c.requires.flies c.args.env c.happen-event.result.0 c.happen-event.result.1 c.happen-event.new.stock c.leave.new.self
    c.forget.new.places.entries None made c.leave.ensures (then_changes calls.entries (c.get_mut.follows.lender after).entries c.forget.new.places.entries c.args.id (Some None) None written c.forget.ensures) refl
    (λ e. absurd (never_seated _ _ _ c.is_seated.ensures c.leave.ensures.seat (search rules) e))

pub returns-else-not-is_seated : goal.returns-else-not-is_seated
returns-else-not-is_seated g c =
    let calls = c.args.self.now.calls in
    let after = c.happen-event.new.place in
    let at = c.in-Some-get_mut.ensures.value in
    let gone : after ≡ None = none_left after (sym c.if-is_some.false ∙ c.is_some.ensures) in
    let made = rw gone at c.happen-event.ensures in
    let written =
    subst (λ x. ChangesPlace calls.entries (c.get_mut.follows.lender after).entries c.args.id (Some x)) gone
    (written_through calls (c.get_mut.follows.lender after) c.args.id after (subst (λ x. IsSome x) at refl) (c.get_mut.follows.holds after))
    in
    turns_last g.P.HasMeaning.meaning g.A.Allocator.charge g.P.Payload.always_shared g.P.HasMeaning.same_meaning c.args.self.now.stock calls c.requires.sound c.args.id c.ranges.id.fits c.in-Some.pin (sym c.pin.ensures ∙ c.in-Some.is)
    c.in-Some-get_mut.place.now at c.requires.flies c.args.env c.happen-event.result.0 c.happen-event.result.1 c.happen-event.new.stock c.leave.new.self
    (c.get_mut.follows.lender after).entries (Some None) made c.leave.ensures written refl (λ e. refl)
