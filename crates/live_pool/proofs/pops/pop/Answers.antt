use Rattle.std.proofs.Common.{rules, ◌≡◌, ◌+◌, ℕ, Option, Result, None, Ok, Err, IfNone, OnErr, subst}
use Rattle.live_pool.specs.Pops.{HasLost}
use Rattle.live_pool.proofs.Missed.{missed_more, missed_busy}
use Rattle.live_pool.proofs.pops.pop.Goals as goal

on_err : {A E : Type 0} {P : Type 0} (r : Result A E) → P → OnErr r P
on_err (Ok a) p = tt
on_err (Err e) p = p

pub returns-in_err-found-clause-busy : goal.returns-in_err-found-clause-busy
returns-in_err-found-clause-busy c = on_err c.from_residual.result (missed_busy c.args.up c.args.low (c.args.last + 1) c.args.guard.now c.loop.guard c.pop_once.new.guard c.loop.invariant c.in_err-found.ensures.busy)

pub loop-preserved : goal.loop-preserved
loop-preserved c =
    let m = c.loop.guard in
    let n = c.pop_once.new.guard in
    let none : c.in_ok-found.field-0 ≡ None = search rules in
    let lost = subst (λ (z : Option (Option (ℕ × ℕ))). IfNone z (HasLost c.args.up c.args.low (c.args.last + 1) m n)) none c.in_ok-found.ensures.lost in
    missed_more c.args.up c.args.low (c.args.last + 1) c.args.guard.now m n c.loop.invariant lost
