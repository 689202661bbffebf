use Rattle.std.proofs.Common.{rules, of_calls, ℕ, suc, Option, None, Ok, Err, refl, subst, inl, inr}
use Rattle.live_nodes.specs.Known.{MadeCall}
use Rattle.live_updates.specs.Entries.{swapped}
use Rattle.live_pool.proofs.retains.judged.Goals as goal

pub loop-init : goal.loop-init
loop-init g c = (tt, tt, c.requires.callable, refl, (0, (refl, refl, refl)))

pub returns-then-f-clause-judged : goal.returns-then-f-clause-judged
returns-then-f-clause-judged g c =
    let changed = c.loop.invariant.4 in
    (changed.0, c.loop.value, c.loop.f, c.loop.guard, changed.1, inl (c.if-f.ensures, refl))

pub returns-in-Ok-clause-judged : goal.returns-in-Ok-clause-judged
returns-in-Ok-clause-judged g c =
    let changed = c.loop.invariant.4 in
    (changed.0, c.loop.value, c.loop.f, c.loop.guard, changed.1, (c.if-f.ensures, subst (λ (z : Option ℕ). MadeCall c.loop.guard (swapped c.loop.guard.caller c.args.pair.0 c.loop.value None (Ok z)) c.exchanged.new.guard) c.in-Ok.ensures.none c.in-Ok.ensures.made))

pub returns-in-Err-None-clause-judged : goal.returns-in-Err-None-clause-judged
returns-in-Err-None-clause-judged g c =
    let changed = c.loop.invariant.4 in
    (changed.0, c.loop.value, c.loop.f, c.loop.guard, changed.1, inr (c.if-f.ensures, subst (λ (z : Option ℕ). MadeCall c.loop.guard (swapped c.loop.guard.caller c.args.pair.0 c.loop.value None (Err z)) c.exchanged.new.guard) c.in-Err-None.field-0-is c.in-Err-None.ensures.made))

pub loop-preserved : goal.loop-preserved
loop-preserved g c =
    let changed = c.loop.invariant.4 in
    (tt, tt, search of_calls, search rules, (suc changed.0, (c.loop.value, c.loop.f, c.loop.guard, changed.1, c.if-f.ensures, subst (λ (z : Option ℕ). MadeCall c.loop.guard (swapped c.loop.guard.caller c.args.pair.0 c.loop.value None (Err z)) c.exchanged.new.guard) c.in-Err-Some.field-0-is c.in-Err-Some.ensures.made)))
