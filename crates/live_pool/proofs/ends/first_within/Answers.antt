use Rattle.std.proofs.Common.{rules, arith, ◌≡◌, ◌+◌, ◌^◌, ℕ, true, Option, Some, None, subst, inl}
use Rattle.live_scans.specs.Scans.{HasNext}
use Rattle.live_pool.proofs.Within.{nothing_within, beside}
use Rattle.live_pool.proofs.ends.first_within.Goals as goal

pub returns-in_default-clause-found : goal.returns-in_default-clause-found
returns-in_default-clause-found c =
    let k = c.args.guard.now in
    let n = c.ceiling.new.guard in
    let none : c.in_ok-found.found ≡ None = search rules in
    nothing_within true k n c.args.low c.args.low (2 ^ 64) (c.args.last + 1) (subst (λ (z : Option (ℕ × ℕ)). HasNext k c.args.low z n) none c.in_ok-found.ensures.next) (omega arith) (omega (arith, c.ranges.last))

pub returns-then-pair-last-clause-found : goal.returns-then-pair-last-clause-found
returns-then-pair-last-clause-found c =
    let k = c.args.guard.now in
    let n = c.ceiling.new.guard in
    let p = c.in-Some.pair in
    let some : c.in_ok-found.found ≡ Some p = search rules in
    let over = c.if-pair-last.true in
    beside true k n c.args.low c.args.low (p.0 + 1) (c.args.last + 1) p (subst (λ (z : Option (ℕ × ℕ)). HasNext k c.args.low z n) some c.in_ok-found.ensures.next) (omega arith) (omega (arith, over)) (inl (omega (arith, over)))
