use Rattle.std.proofs.Common.{None}
use Rattle.std.specs.Fn.{CalledAt}
use Rattle.live_updates.proofs.Reached.{calls_on, last_on}
use Rattle.live_payloads.specs.Tries.{ChangedNone}
use Rattle.live_payloads.proofs.Looked.{knows_on}
use Rattle.live_payloads.proofs.Tried.{none_on, tried_on, finds_on, computes_on}
use Rattle.live_payloads.proofs.payload_congee.PayloadCongee.compute_if_present.Goals as goal

pub returns-in-Ok-clause-reached : goal.returns-in-Ok-clause-reached
returns-in-Ok-clause-reached g c = calls_on (CalledAt g.F.FnMut) c.args.f.now c.loop.f c.try_compute_if_present.new.f c.loop.invariant.reached c.try_compute_if_present.ensures.reached

pub returns-in-Ok-clause-absent : goal.returns-in-Ok-clause-absent
returns-in-Ok-clause-absent g c =
    none_on c.in-Ok.done (finds_on (g.K.Word.number c.args.key.now) c.args.guard.now c.loop.guard c.try_compute_if_present.new.guard None c.loop.invariant.tried) c.in-Ok.ensures.absent

pub returns-in-Ok-clause-made : goal.returns-in-Ok-clause-made
returns-in-Ok-clause-made g c =
    let i = c.loop.invariant in
    let now = c.try_compute_if_present.new in
    computes_on (CalledAt g.F.FnMut) c.args.f.now c.loop.f now.f (g.K.Word.number c.args.key.now) c.args.guard.now c.loop.guard now.guard c.in-Ok.done i.reached i.tried i.knows.2 c.in-Ok.ensures.made

pub returns-in-Err-OutOfMemory-default-clause-reached :
    goal.returns-in-Err-OutOfMemory-default-clause-reached
returns-in-Err-OutOfMemory-default-clause-reached g c = calls_on (CalledAt g.F.FnMut) c.args.f.now c.loop.f c.try_compute_if_present.new.f c.loop.invariant.reached c.try_compute_if_present.ensures.reached

pub returns-in-Err-OutOfMemory-default-clause-refused :
    goal.returns-in-Err-OutOfMemory-default-clause-refused
returns-in-Err-OutOfMemory-default-clause-refused g c =
    tried_on (ChangedNone (g.K.Word.number c.args.key.now)) c.args.guard.now.tickets c.loop.guard.tickets c.try_compute_if_present.new.guard.tickets c.loop.invariant.tried c.in-Err-OutOfMemory-default.ensures.refused

pub returns-in-Err-OutOfMemory-default-clause-back :
    goal.returns-in-Err-OutOfMemory-default-clause-back
returns-in-Err-OutOfMemory-default-clause-back g c =
    let it = c.in-Err-OutOfMemory-default in
    let back = it.ensures.back it.field-0-0-is in
    (back.0, last_on (CalledAt g.F.FnMut) c.args.f.now c.loop.f c.try_compute_if_present.new.f back.0 it.back c.loop.invariant.reached back.1)

pub loop-preserved : goal.loop-preserved
loop-preserved g c =
    let i = c.loop.invariant in
    let k = c.args.guard.now in
    let m = c.loop.guard in
    let now = c.try_compute_if_present.new in
    record {
      callable = c.try_compute_if_present.ensures.callable;
      reached = calls_on (CalledAt g.F.FnMut) c.args.f.now c.loop.f now.f i.reached c.try_compute_if_present.ensures.reached;
      knows = knows_on k m now.guard i.knows c.try_compute_if_present.ensures.map;
      tried = tried_on (ChangedNone (g.K.Word.number c.args.key.now)) k.tickets m.tickets now.guard.tickets i.tried c.in-Err-Busy-default.ensures.refused;
    }
