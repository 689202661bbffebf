use Rattle.std.proofs.Common.{arith, ◌≡◌, ◌≤◌, ◌+◌, ◌-◌, ℕ, length, take, get_or, length-take-le, refl, subst}
use Rattle.spec_map.specs.Map.{Pairs}
use Rattle.live_nodes.specs.Known.{Known}
use Rattle.live_pool.specs.Removals.{HaveRemoved}
use Rattle.live_pool.specs.inner.Parts.{behind}
use Rattle.live_pool.proofs.Emptied.{removed_on}
use Rattle.live_pool.proofs.Parts.{behind-low, behind-high, behind-part, part_popped}
use Rattle.live_pool.proofs.removals.remove_some.Goals as goal
use Rattle.live_pool.proofs.removals.remove_some.Goals.{Else-count-eq0}

-- A PART was removed
module _ (c : Else-count-eq0) where
  abbrev page : Pairs ℕ
  page = c.take_part.new.page

  abbrev part : Pairs ℕ
  part = take c.in-Some.count page

  some : 1 ≤ c.in-Some.count
  some = omega (arith, c.if-count-eq0.false)

  many : length part ≡ c.in-Some.count
  many = length-take-le c.in-Some.count page (let l = c.in-Some.ensures.few in omega (arith, l))

  -- up to its last pair
  to : behind c.args.low part ≡ (get_or page (c.in-Some.count - 1) (0, 0)).0 + 1
  to = behind-part c.args.low c.in-Some.count page (0, 0) some (let l = c.in-Some.ensures.few in omega (arith, l))

pub returns-clause-inside : goal.returns-clause-inside
returns-clause-inside c =
    let d = (goal.at.returns-clause-inside c).Else-count-eq0 in
    let m = many d in
    let s = some d in
    let t = to d in
    let low = behind-low c.args.low (c.args.last + 1) (part d) c.in-Some.ensures.ascend in
    let high = behind-high c.args.low (c.args.last + 1) (part d) (omega (arith, m, s)) c.in-Some.ensures.ascend in
    (omega (arith, low, m, s, t), omega (arith, high, t))

pub returns-clause-removed : goal.returns-clause-removed
returns-clause-removed c =
    let d = (goal.at.returns-clause-removed c).Else-count-eq0 in
    let k = c.args.guard.now in
    let n = c.take_part.new.guard in
    let m = many d in
    let s = some d in
    let popped = part_popped c.args.low (c.args.last + 1) (part d) k n (omega (arith, m, s)) c.in-Some.ensures.part in
    let all = removed_on c.args.low (c.args.last + 1) c.args.low (part d) 0 k k n (refl, refl) popped in
    subst (λ (z : ℕ). HaveRemoved c.args.low (c.args.last + 1) z ((get_or (page d) (c.in-Some.count - 1) (0, 0)).0 + 1) k n) (let e : 0 + length (part d) ≡ c.in-Some.count = omega (arith, m) in e)
    (subst (λ (z : ℕ). HaveRemoved c.args.low (c.args.last + 1) (0 + length (part d)) z k n) (to d) all)
