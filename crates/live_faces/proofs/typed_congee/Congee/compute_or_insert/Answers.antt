use Rattle.std.proofs.Common.{rules, subst, ◌≡◌, Ok, IfOk}
use Rattle.live_updates.proofs.Reached.{calls_on}
use Rattle.live_faces.specs.Returned.{ReturnsInserted}
use Rattle.live_faces.proofs.Asked.{inserted_on}
use Rattle.live_faces.proofs.typed_congee.Congee.compute_or_insert.Goals as goal

pub returns-in-Ok-clause-reached : goal.returns-in-Ok-clause-reached
returns-in-Ok-clause-reached g c = calls_on (goal.F-step g) c.args.f.now c.loop.f c.try_compute_or_insert.new.f c.loop.invariant.4 c.try_compute_or_insert.ensures.reached

pub returns-in-Ok-clause-made : goal.returns-in-Ok-clause-made
returns-in-Ok-clause-made g c =
    let now = c.try_compute_or_insert.new in
    let key = g.K.Word.number c.args.key in
    let made : c.try_compute_or_insert.result ≡ Ok c.in-Ok.before = search rules in
    let here = subst (λ z. IfOk z (λ before. ReturnsInserted g.V.Word.of_number c.loop.guard (goal.F-step g) c.loop.f now.f key before now.guard)) made c.try_compute_or_insert.ensures.made in
    inserted_on g.V.Word.of_number (goal.F-step g) c.args.guard.now c.loop.guard now.guard c.args.f.now c.loop.f now.f key c.in-Ok.before c.loop.invariant.2 c.loop.invariant.4 here

pub returns-in-Err-OutOfMemory-clause-reached : goal.returns-in-Err-OutOfMemory-clause-reached
returns-in-Err-OutOfMemory-clause-reached g c = calls_on (goal.F-step g) c.args.f.now c.loop.f c.try_compute_or_insert.new.f c.loop.invariant.4 c.try_compute_or_insert.ensures.reached

pub loop-preserved : goal.loop-preserved
loop-preserved g c =
    let same : c.try_compute_or_insert.new.guard ≡ c.args.guard.now = search rules in
    (tt, tt, same, c.try_compute_or_insert.ensures.callable, calls_on (goal.F-step g) c.args.f.now c.loop.f c.try_compute_or_insert.new.f c.loop.invariant.4 c.try_compute_or_insert.ensures.reached)
