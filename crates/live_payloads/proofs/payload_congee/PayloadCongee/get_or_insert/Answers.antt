use Rattle.std.proofs.Common.{rules, ◌≡◌, Some, None, IfSome, IfNone, subst}
use Rattle.live_payloads.specs.Tries.{ChangedNone, FindsAtLast, AddsPayload}
use Rattle.live_payloads.proofs.Looked.{knows_on}
use Rattle.live_payloads.proofs.Tried.{none_on, some_on, tried_on, finds_on, adds_on}
use Rattle.live_payloads.proofs.payload_congee.PayloadCongee.get_or_insert.Goals as goal

pub returns-in-Ok-clause-added : goal.returns-in-Ok-clause-added
returns-in-Ok-clause-added g c =
    let key = g.K.Word.number c.args.key in
    let i = c.loop.invariant in
    let k = c.args.guard.now in
    let m = c.loop.guard in
    let n = c.try_get_or_insert.new.guard in
    let lent = c.in-Ok.both.0 in
    let here = subst (λ z. IfNone c.in-Ok.both.1 ((lent.value ≡ Some z) × AddsPayload key lent.ticket z m n)) i.payload c.in-Ok.ensures.added in
    none_on c.in-Ok.both.1 (λ a. (a.0, adds_on key lent.ticket c.args.payload k m n i.tried i.knows.2 a.1)) here

pub returns-in-Ok-clause-found : goal.returns-in-Ok-clause-found
returns-in-Ok-clause-found g c =
    let key = g.K.Word.number c.args.key in
    let i = c.loop.invariant in
    let k = c.args.guard.now in
    let m = c.loop.guard in
    let n = c.try_get_or_insert.new.guard in
    let found = Some c.in-Ok.both.0 in
    let here = subst (λ z. IfSome c.in-Ok.both.1 (λ back. (back ≡ z) × FindsAtLast key m found n)) i.payload c.in-Ok.ensures.found in
    some_on _ _ c.in-Ok.both.1 (λ back f. (f.0, finds_on key k m n found i.tried f.1)) here

pub returns-in-Err-OutOfMemory-default-clause-refused :
    goal.returns-in-Err-OutOfMemory-default-clause-refused
returns-in-Err-OutOfMemory-default-clause-refused g c =
    let memory = c.in-Err-OutOfMemory-default.ensures.memory c.in-Err-OutOfMemory-default.field-0-0-is in
    finds_on (g.K.Word.number c.args.key) c.args.guard.now c.loop.guard c.try_get_or_insert.new.guard None c.loop.invariant.tried memory

pub loop-preserved : goal.loop-preserved
loop-preserved g c =
    let i = c.loop.invariant in
    let k = c.args.guard.now in
    let m = c.loop.guard in
    let n = c.try_get_or_insert.new.guard in
    record {
      payload = search rules;
      knows = knows_on k m n i.knows c.try_get_or_insert.ensures.map;
      tried = tried_on (ChangedNone (g.K.Word.number c.args.key)) k.tickets m.tickets n.tickets i.tried (c.in-Err-Busy-default.ensures.busy c.in-Err-Busy-default.field-0-0-is);
    }
