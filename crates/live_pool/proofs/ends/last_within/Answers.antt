use Rattle.std.proofs.Common.{rules, arith, ◌≡◌, ◌+◌, ℕ, false, Option, Some, None, subst, inr}
use Rattle.live_scans.specs.Floors.{HasBefore}
use Rattle.live_pool.proofs.Within.{nothing_within, beside}
use Rattle.live_pool.proofs.ends.last_within.Goals as goal

pub returns-in_default-clause-found : goal.returns-in_default-clause-found
returns-in_default-clause-found c =
    let k = c.args.guard.now in
    let n = c.floor.new.guard in
    let none : c.in_ok-found.found ≡ None = search rules in
    nothing_within false k n 0 c.args.low (c.args.last + 1) (c.args.last + 1) (subst (λ (z : Option (ℕ × ℕ)). HasBefore k (c.args.last + 1) z n) none c.in_ok-found.ensures.before) (omega arith) (omega arith)

pub returns-then-pair-low-clause-found : goal.returns-then-pair-low-clause-found
returns-then-pair-low-clause-found c =
    let k = c.args.guard.now in
    let n = c.floor.new.guard in
    let p = c.in-Some.pair in
    let some : c.in_ok-found.found ≡ Some p = search rules in
    let under = c.if-pair-low.true in
    beside false k n p.0 c.args.low (c.args.last + 1) (c.args.last + 1) p (subst (λ (z : Option (ℕ × ℕ)). HasBefore k (c.args.last + 1) z n) some c.in_ok-found.ensures.before) (omega (arith, under)) (omega arith) (inr under)
