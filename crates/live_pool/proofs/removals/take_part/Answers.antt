use Rattle.std.proofs.Common.{rules, arith, ◌≡◌, ◌≤◌, ◌+◌, ℕ, true, [], length, take, length-take-le, Option, Some, None, sym, subst, inl, inr}
use Rattle.live_scans.specs.Scans.{HasRead, HasBegun}
use Rattle.live_pool.specs.Pops.{HasEnd}
use Rattle.live_pool.proofs.Missed.{missed_none}
use Rattle.live_pool.proofs.Within.{beside, end_begun}
use Rattle.live_pool.proofs.Parts.{part_taken, part_rises, on_err}
use Rattle.live_pool.proofs.removals.take_part.Goals as goal
use Rattle.live_pool.proofs.removals.take_part.Goals.{In-Some, After-take_from_leaf-count}

-- A PAIR was found
module _ (c : In-Some) where
  ends : HasEnd true c.args.low (c.args.last + 1) c.args.guard.now (Some c.in-Some.pair) c.end_within.new.guard
  ends =
      let some : c.in-Ok.found ≡ Some c.in-Some.pair = search rules in
      subst (λ (z : Option (ℕ × ℕ)). HasEnd true c.args.low (c.args.last + 1) c.args.guard.now z c.end_within.new.guard) some c.in-Ok.ensures.found

  low : c.args.low ≤ c.in-Some.pair.0
  low = ends.1.1.ascend.0

-- and those of its leaf were taken out, if there are some
module _ (c : After-take_from_leaf-count) where
  abbrev found : In-Some
  found = (goal.at.After-take_from_leaf-count c).In-Some

  before : (seen : HasBegun c.args.guard.now c.end_within.new.guard) × HasRead true seen.start.seen c.end_within.new.guard.seen c.args.low c.leaf_begin-begin.result []
  before =
      let order = c.leaf_begin-begin.ensures.order.1 in
      beside true c.args.guard.now c.end_within.new.guard c.args.low c.args.low (c.in-Some.pair.0 + 1) c.leaf_begin-begin.result c.in-Some.pair (ends found).1 (omega arith) (omega (arith, order)) (inl order)

pub returns-in_default-clause-missed : goal.returns-in_default-clause-missed
returns-in_default-clause-missed c = on_err c.end_within.result (search rules) c.end_within.ensures.busy

pub returns-in_default-found-clause-part : goal.returns-in_default-found-clause-part
returns-in_default-found-clause-part c =
    let none : c.in-Ok.found ≡ None = search rules in (
      c.args.guard.now,
      missed_none true c.args.low (c.args.last + 1) c.args.guard.now,
      subst (λ (z : Option (ℕ × ℕ)). HasEnd true c.args.low (c.args.last + 1) c.args.guard.now z c.end_within.new.guard) none c.in-Ok.ensures.found,
    )

pub leaf_begin-begin-requires : goal.leaf_begin-begin-requires
leaf_begin-begin-requires c = low (goal.at.leaf_begin-begin-requires c).In-Some

pub take_from_leaf-count-requires-clause-order : goal.take_from_leaf-count-requires-clause-order
take_from_leaf-count-requires-clause-order c =
    let e = (ends (goal.at.take_from_leaf-count-requires-clause-order c).In-Some).0 in
    let order = c.leaf_begin-begin.ensures.order.1 in
    omega (arith, e, order)

pub returns-then-count-eq0-clause-missed : goal.returns-then-count-eq0-clause-missed
returns-then-count-eq0-clause-missed c =
    let same = c.take_from_leaf-count.ensures.none c.if-count-eq0.true in
    inr (subst (HasBegun c.args.guard.now) (sym same) (end_begun true c.args.low (c.args.last + 1) c.args.guard.now c.end_within.new.guard c.in-Some.pair (ends (found (goal.at.returns-then-count-eq0-clause-missed c).After-take_from_leaf-count))))

pub returns-clause-part : goal.returns-clause-part
returns-clause-part c =
    let t = (goal.at.returns-clause-part c).After-take_from_leaf-count in
    let count = c.take_from_leaf-count.result in
    let page = c.take_from_leaf-count.new.buffer in
    let few = c.take_from_leaf-count.ensures.few in
    let many : length (take count page) ≡ count = length-take-le count page (omega (arith, few)) in
    let some : 1 ≤ count = omega (arith, c.if-count-eq0.false) in
    let order = c.leaf_begin-begin.ensures.order in
    part_taken c.args.low c.leaf_begin-begin.result (c.args.last + 1) c.args.guard.now c.end_within.new.guard c.take_from_leaf-count.new.guard (take count page) (before t) order.0 c.leaf_begin-begin.ensures.seam (omega (arith, many, some)) (c.take_from_leaf-count.ensures.taken some)

pub returns-clause-ascend : goal.returns-clause-ascend
returns-clause-ascend c =
    let some : 1 ≤ c.take_from_leaf-count.result = omega (arith, c.if-count-eq0.false) in
    part_rises c.args.low c.leaf_begin-begin.result (c.args.last + 1) c.end_within.new.guard c.take_from_leaf-count.new.guard (take c.take_from_leaf-count.result c.take_from_leaf-count.new.buffer) c.leaf_begin-begin.ensures.order.0 (c.take_from_leaf-count.ensures.taken some)
