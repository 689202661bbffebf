use Rattle.std.proofs.Common.{rules, refl, ◌≡◌, ℕ, ◌++◌, List, subst, ap, ◌∙◌, ◌<◌, length, take}
use Rattle.std.proofs.lemmas.List.{take_more, take_all}
use Rattle.spec_olc.specs.declared.trace.Decision.{Decision}
use Rattle.spec_olc.specs.declared.types.Event.{Event}
use Rattle.olc_machine.specs.inner.Inside.{inside}
use Rattle.olc_state.specs.inner.Shown.{state_of}
use Rattle.olc_replay.specs.inner.Played.{SoFar}
use Rattle.olc_replay.proofs.Numbers.{sound_itself, sound_meant, content_itself}
use Rattle.olc_replay.proofs.Playing.{so_far_more, sound_so_far}
use Rattle.olc_replay.proofs.Replaying.{so_far_fresh, replayed}
use Rattle.olc_replay.proofs.replay.replay_with.Goals as goal

pub happen-requires : goal.happen-requires
happen-requires g c =
    let first = inside g.A.Allocator.charge c.in_ok-machine.machine in
    let now = inside g.A.Allocator.charge c.loop-event.machine in
    record { sound = sound_so_far first now _ _ _ (sound_itself first c.in_ok-machine.ensures.sound) c.loop-event.invariant }

pub loop-event-init : goal.loop-event-init
loop-event-init g c =
    so_far_fresh (inside g.A.Allocator.charge c.in_ok-machine.machine) c.in_ok-machine.ensures.fresh.0 _ _ _ _ c.in_ok-machine.ensures.fresh.1 refl (search rules) (search rules)

pub loop-event-preserved : goal.loop-event-preserved
loop-event-preserved g c =
    let first = inside g.A.Allocator.charge c.in_ok-machine.machine in
    let now = inside g.A.Allocator.charge c.loop-event.machine in
    let within : c.loop-event.event-index < length c.args.events.now = c.loop-event-test.true in
    let made = c.in_ok-happened.ensures in
    so_far_more first now _ _ _ _ _ _ _ _ _ c.loop-event.invariant made.plays
    (take_more c.args.events.now c.loop-event.event-index _ within) c.in_ok-push.ensures.items
    (c.in_ok-note.ensures ∙ ap (λ (ds : List Decision). c.loop-event.decided.items ++ ds) made.decided_is)

pub content-requires : goal.content-requires
content-requires g c =
    let first = inside g.A.Allocator.charge c.in_ok-machine.machine in
    let now = inside g.A.Allocator.charge c.loop-event.machine in
    record { sound = sound_meant now (sound_so_far first now _ _ _ (sound_itself first c.in_ok-machine.ensures.sound) c.loop-event.invariant) }

pub returns : goal.returns
returns g c =
    let first = inside g.A.Allocator.charge c.in_ok-machine.machine in
    let now = inside g.A.Allocator.charge c.loop-event.machine in
    let whole : take c.loop-event.event-index c.args.events.now ≡ c.args.events.now = take_all c.loop-event.event-index c.args.events.now c.loop-event-test.false in
    let so_far : SoFar first c.args.events.now c.loop-event.lines.items c.loop-event.decided.items now =
    subst (λ (es : List (Event ℕ)). SoFar first es c.loop-event.lines.items c.loop-event.decided.items now) whole c.loop-event.invariant in
    replayed first now c.in_ok-machine.ensures.fresh.0 _ c.args.events.now c.loop-event.lines.items c.loop-event.decided.items c.in_ok-content.content.items
    c.in_ok-machine.ensures.fresh.1 (sound_itself first c.in_ok-machine.ensures.sound) so_far
    (content_itself (state_of now) c.in_ok-content.content.items c.in_ok-content.ensures)
