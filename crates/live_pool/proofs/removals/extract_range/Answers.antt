use Rattle.std.proofs.Common.{rules, ◌≡◌, ◌≤◌, ◌+◌, ◌-◌, ℕ, arith, [], length, take, get_or, length-take-le, subst, ap, refl, inr, ◌∙◌}
use Rattle.spec_map.specs.Map.{Pairs}
use Rattle.live_pool.specs.Removals.{HaveTaken}
use Rattle.live_pool.specs.inner.Parts.{behind, HasTakenPart}
use Rattle.live_pool.proofs.Emptied.{extracted_at_end}
use Rattle.live_pool.proofs.Parts.{turned, turned-length, taken_on, behind-low, behind-high, behind-part, part_popped}
use Rattle.live_pool.proofs.removals.extract_range.Given.{Over}
use Rattle.live_pool.proofs.removals.extract_range.Goals as goal
use Rattle.live_pool.proofs.removals.extract_range.Goals.{After-hand_on}

-- ONE MORE PART was removed, and handed on
module _ (g : Over) (c : After-hand_on g) where
  abbrev read : ℕ
  read = c.taken_part-read.result

  abbrev page : Pairs ℕ
  page = c.taken_part-read.new.page

  abbrev part : Pairs ℕ
  part = take read page

  abbrev taken : Pairs ℕ
  taken = turned part c.loop-page.invariant.taken

  some : 1 ≤ read
  some = omega arith

  many : length part ≡ read
  many = length-take-le read page (let l = c.taken_part-read.ensures.few in omega (arith, l))

  counted : c.loop-page.count + read ≡ length taken
  counted = let e = turned-length part c.loop-page.invariant.taken in let i = c.loop-page.invariant.counted in let m = many in omega (arith, e, i, m)

  removed : HaveTaken g.T.Receiver.step c.args.low (c.args.last + 1) taken (behind c.loop-page.from part) c.args.f.now c.args.guard.now c.hand_on.new.f c.taken_part-read.new.guard
  removed = taken_on g.T.Receiver.step c.args.low (c.args.last + 1) c.loop-page.from part c.loop-page.invariant.taken c.args.f.now c.loop-page.f c.hand_on.new.f c.args.guard.now c.loop-page.guard c.taken_part-read.new.guard c.loop-page.invariant.removed
      (part_popped c.loop-page.from (c.args.last + 1) part c.loop-page.guard c.taken_part-read.new.guard (let m = many in let s = some in omega (arith, m, s)) c.taken_part-read.ensures.part) c.hand_on.ensures.handed

  -- up to its last pair
  to : behind c.loop-page.from part ≡ (get_or page (read - 1) (0, 0)).0 + 1
  to = behind-part c.loop-page.from read page (0, 0) some (let l = c.taken_part-read.ensures.few in omega (arith, l))

  from : read + c.loop-page.from ≤ (get_or page (read - 1) (0, 0)).0 + 1
  from = let l = behind-low c.loop-page.from (c.args.last + 1) part c.taken_part-read.ensures.ascend in let m = many in let t = to in omega (arith, l, m, t)

  inside : (get_or page (read - 1) (0, 0)).0 ≤ c.args.last
  inside = let m = many in let s = some in let l = behind-high c.loop-page.from (c.args.last + 1) part (omega (arith, m, s)) c.taken_part-read.ensures.ascend in let t = to in omega (arith, l, t)

pub loop-page-init : goal.loop-page-init
loop-page-init g c = record { map = search rules; same = refl; long = refl; few = omega arith; ready = c.requires.ready; taken = []; counted = refl; removed = (refl, refl, refl) }

pub returns-then-read-eq0-clause-extracted : goal.returns-then-read-eq0-clause-extracted
returns-then-read-eq0-clause-extracted g c =
    let i = c.loop-page.invariant in
    let none = subst (λ (z : ℕ). HasTakenPart c.loop-page.from (c.args.last + 1) (take z c.taken_part-read.new.page) c.loop-page.guard c.taken_part-read.new.guard) c.if-read-eq0.true c.taken_part-read.ensures.part in
    record { taken = i.taken; counted = i.counted; from = c.loop-page.from; middle = c.loop-page.guard; removed = i.removed; rest = inr none }

pub returns-then-end-last-clause-extracted : goal.returns-then-end-last-clause-extracted
returns-then-end-last-clause-extracted g c =
    let d = (goal.at.returns-then-end-last-clause-extracted g c).After-hand_on in
    extracted_at_end g.T.Receiver.step c.args.low (c.args.last + 1) (c.loop-page.count + c.taken_part-read.result) (taken g d) (behind c.loop-page.from (part g d)) c.args.f.now c.hand_on.new.f c.args.guard.now c.taken_part-read.new.guard
    (counted g d) (to g d ∙ ap (λ (z : ℕ). z + 1) c.if-end-last.true) (removed g d)

pub overflow_add-from : goal.overflow_add-from
overflow_add-from g c = let l = inside g (goal.at.overflow_add-from g c).After-hand_on in omega (arith, l, c.if-end-last.false)

pub loop-page-preserved : goal.loop-page-preserved
loop-page-preserved g c =
    let d = (goal.at.loop-page-preserved g c).After-hand_on in
    let i = c.loop-page.invariant in
    let before = i.few in
    let long = i.long in
    let f = from g d in record {
      map = search rules;
      same = search rules;
      long = omega (arith, long);
      few = omega (arith, before, f);
      ready = c.hand_on.ensures.ready;
      taken = taken g d;
      counted = counted g d;
      removed = subst (λ (z : ℕ). HaveTaken g.T.Receiver.step c.args.low (c.args.last + 1) (taken g d) z c.args.f.now c.args.guard.now c.hand_on.new.f c.taken_part-read.new.guard) (to g d) (removed g d);
    }

pub loop-page-smaller : goal.loop-page-smaller
loop-page-smaller g c =
    let d = (goal.at.loop-page-smaller g c).After-hand_on in
    let l = inside g d in
    let f = from g d in
    let s = some g d in
    omega (arith, l, f, s, c.ranges.last)
