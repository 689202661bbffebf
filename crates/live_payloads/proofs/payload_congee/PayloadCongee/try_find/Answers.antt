use Rattle.std.proofs.Common.{rules, ◌≡◌, Some, None, Result, Ok, Err, IfSome, IfNone, OnErr, subst}
use Rattle.live_payloads.specs.Tries.{MissedNeighbour, FindsNeighbour}
use Rattle.live_payloads.proofs.Looked.{knows_on}
use Rattle.live_payloads.proofs.Tried.{tried_more, neighbour_on}
use Rattle.live_payloads.proofs.payload_congee.PayloadCongee.try_find.Goals as goal

on_err : {A E : Type 0} {P : Type 0} (r : Result A E) → P → OnErr r P
on_err (Ok a) p = tt
on_err (Err e) p = p

pub returns-in_err-found-clause-busy : goal.returns-in_err-found-clause-busy
returns-in_err-found-clause-busy g c =
    on_err c.from_residual.result (tried_more (MissedNeighbour c.args.up c.args.from) c.args.guard.now.tickets c.loop.guard.tickets c.find_once.new.guard.tickets c.loop.invariant.tried c.in_err-found.ensures.busy)

pub returns-in-Some-clause-found : goal.returns-in-Some-clause-found
returns-in-Some-clause-found g c =
    let some : c.in_ok-found.field-0 ≡ Some c.in-Some.found = search rules in
    let n = c.find_once.new.guard in
    let found = subst (λ z. IfSome z (λ found. FindsNeighbour g.K.Word.of_number c.args.up c.args.from c.loop.guard found n)) some c.in_ok-found.ensures.found in
    neighbour_on g.K.Word.of_number c.args.up c.args.from c.args.guard.now c.loop.guard n c.in-Some.found c.loop.invariant.tried found

pub loop-preserved : goal.loop-preserved
loop-preserved g c =
    let k = c.args.guard.now in
    let m = c.loop.guard in
    let n = c.find_once.new.guard in
    let none : c.in_ok-found.field-0 ≡ None = search rules in
    let missed = subst (λ z. IfNone z (MissedNeighbour c.args.up c.args.from m.tickets n.tickets)) none c.in_ok-found.ensures.missed in
    record {
      knows = knows_on k m n c.loop.invariant.knows c.find_once.ensures.map;
      tried = tried_more (MissedNeighbour c.args.up c.args.from) k.tickets m.tickets n.tickets c.loop.invariant.tried missed;
    }
