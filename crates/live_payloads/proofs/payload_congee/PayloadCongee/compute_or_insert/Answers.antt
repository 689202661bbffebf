use Rattle.std.proofs.Common.{rules, ◌≡◌, Option, Some, IsSomeAnd, subst}
use Rattle.live_updates.specs.Closures.{EndsWithCall}
use Rattle.live_updates.proofs.Reached.{calls_on, last_on}
use Rattle.live_payloads.specs.Tries.{ChangedNone}
use Rattle.live_payloads.specs.Computes.{CalledAtOption}
use Rattle.live_payloads.proofs.Looked.{knows_on}
use Rattle.live_payloads.proofs.Tried.{tried_on, stores_on}
use Rattle.live_payloads.proofs.payload_congee.PayloadCongee.compute_or_insert.Goals as goal

pub returns-in-Ok-clause-reached : goal.returns-in-Ok-clause-reached
returns-in-Ok-clause-reached g c = calls_on (CalledAtOption g.F.FnMut) c.args.f.now c.loop.f c.try_compute_or_insert.new.f c.loop.invariant.reached c.try_compute_or_insert.ensures.reached

pub returns-in-Ok-clause-stored : goal.returns-in-Ok-clause-stored
returns-in-Ok-clause-stored g c =
    let i = c.loop.invariant in
    let now = c.try_compute_or_insert.new in
    stores_on (CalledAtOption g.F.FnMut) c.args.f.now c.loop.f now.f (g.K.Word.number c.args.key.now) c.in-Ok.before c.args.guard.now c.loop.guard now.guard i.reached i.tried i.knows.2 c.in-Ok.ensures.stored

pub returns-in-Err-OutOfMemory-default-clause-reached :
    goal.returns-in-Err-OutOfMemory-default-clause-reached
returns-in-Err-OutOfMemory-default-clause-reached g c = calls_on (CalledAtOption g.F.FnMut) c.args.f.now c.loop.f c.try_compute_or_insert.new.f c.loop.invariant.reached c.try_compute_or_insert.ensures.reached

pub returns-in-Err-OutOfMemory-default-clause-refused :
    goal.returns-in-Err-OutOfMemory-default-clause-refused
returns-in-Err-OutOfMemory-default-clause-refused g c =
    tried_on (ChangedNone (g.K.Word.number c.args.key.now)) c.args.guard.now.tickets c.loop.guard.tickets c.try_compute_or_insert.new.guard.tickets c.loop.invariant.tried c.in-Err-OutOfMemory-default.ensures.refused

pub returns-in-Err-OutOfMemory-default-clause-back :
    goal.returns-in-Err-OutOfMemory-default-clause-back
returns-in-Err-OutOfMemory-default-clause-back g c =
    let it = c.in-Err-OutOfMemory-default in
    let value = c.in-Some-back.value in
    let some : it.back ≡ Some value = search rules in
    let last = subst (λ z. IsSomeAnd z (λ back. (asked : Option g.row.P.Denot) × EndsWithCall (CalledAtOption g.F.FnMut) c.loop.f asked back c.try_compute_or_insert.new.f)) some (it.ensures.back it.field-0-0-is) in
    (last.0, last_on (CalledAtOption g.F.FnMut) c.args.f.now c.loop.f c.try_compute_or_insert.new.f last.0 value c.loop.invariant.reached last.1)

pub loop-preserved : goal.loop-preserved
loop-preserved g c =
    let i = c.loop.invariant in
    let k = c.args.guard.now in
    let m = c.loop.guard in
    let now = c.try_compute_or_insert.new in
    record {
      callable = c.try_compute_or_insert.ensures.callable;
      reached = calls_on (CalledAtOption g.F.FnMut) c.args.f.now c.loop.f now.f i.reached c.try_compute_or_insert.ensures.reached;
      knows = knows_on k m now.guard i.knows c.try_compute_or_insert.ensures.map;
      tried = tried_on (ChangedNone (g.K.Word.number c.args.key.now)) k.tickets m.tickets now.guard.tickets i.tried c.in-Err-Busy-default.ensures.refused;
    }
