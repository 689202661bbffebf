use Rattle.std.proofs.Common.{rules, subst, ◌≡◌, Ok, IfOk, IfSome}
use Rattle.live_updates.specs.Closures.{EndsWithCall}
use Rattle.live_updates.proofs.Reached.{asked_on, calls_on}
use Rattle.live_faces.proofs.typed_congee.Congee.compute_if_present.Goals as goal

pub returns-in-Ok-clause-reached : goal.returns-in-Ok-clause-reached
returns-in-Ok-clause-reached g c = calls_on (goal.F-step g) c.args.f.now c.loop.f c.try_compute_if_present.new.f c.loop.invariant.4 c.try_compute_if_present.ensures.reached

pub returns-in-Ok-clause-asked : goal.returns-in-Ok-clause-asked
returns-in-Ok-clause-asked g c =
    let made : c.try_compute_if_present.result ≡ Ok c.in-Ok.both = search rules in
    let asked = subst (λ z. IfOk z (λ both. IfSome both (λ pair. EndsWithCall (goal.F-step g) c.loop.f pair.0 pair.1 c.try_compute_if_present.new.f))) made c.try_compute_if_present.ensures.asked in
    asked_on (goal.F-step g) c.args.f.now c.loop.f c.try_compute_if_present.new.f c.in-Ok.both c.loop.invariant.4 asked

pub loop-preserved : goal.loop-preserved
loop-preserved g c =
    let same : c.try_compute_if_present.new.guard ≡ c.args.guard.now = search rules in
    (tt, tt, same, c.try_compute_if_present.ensures.callable, calls_on (goal.F-step g) c.args.f.now c.loop.f c.try_compute_if_present.new.f c.loop.invariant.4 c.try_compute_if_present.ensures.reached)
