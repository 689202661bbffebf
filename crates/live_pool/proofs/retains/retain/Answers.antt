use Rattle.std.proofs.Common.{rules, arith, refl, suc, ℕ, ◌+◌, ◌≤◌, length, take, get_or, subst}
use Rattle.spec_map.specs.Map.{Pairs}
use Rattle.live_pool.specs.Retains.{HasListed, HaveGone}
use Rattle.live_pool.proofs.Judged.{IsPart, part_whole, part_full, gone_more}
use Rattle.live_pool.proofs.retains.retain.Given.{Over}
use Rattle.live_pool.proofs.retains.retain.Goals as goal
use Rattle.live_pool.proofs.retains.retain.Goals.{After-judged_all}

-- A PAGE was read, and its pairs judged
module _ (g : Over) (c : After-judged_all g) where
  abbrev pairs : Pairs ℕ
  pairs = take c.listed-read.result c.listed-read.new.page

  -- so the keys up to where they end were gone through
  gone : (end : ℕ) → HasListed c.loop-pool.from end pairs c.listed-read.ensures.page.0 c.listed-read.new.guard
      → HaveGone (λ state asked stays next. goal.F-step g state asked.0 asked.1 stays next) (suc c.loop-pool.invariant.parts) c.args.low end (c.loop-pool.count + c.judged_all.result) c.args.f.now c.args.guard.now c.judged_all.new.f c.judged_all.new.guard
  gone end listed =
      let i = c.loop-pool.invariant in
      let page = c.listed-read.ensures.page in
      gone_more (λ state asked stays next. goal.F-step g state asked.0 asked.1 stays next) i.parts c.args.low c.loop-pool.from end c.loop-pool.count c.judged_all.result pairs c.args.f.now c.loop-pool.f c.judged_all.new.f c.args.guard.now c.loop-pool.guard c.listed-read.new.guard c.judged_all.new.guard i.gone (page.0, page.1, listed) c.judged_all.ensures.judged

  -- if the page is full, up to its last pair
  part : 64 ≤ c.listed-read.result → IsPart c.listed-read.ensures.page.0 c.listed-read.new.guard c.loop-pool.from (c.args.last + 1) (get_or c.listed-read.new.page 63 (0, 0)).0 pairs
  part full =
      let page = c.listed-read.ensures.page in
      let long = c.loop-pool.invariant.long in
      part_full page.0 c.listed-read.new.guard c.loop-pool.from (c.args.last + 1) (length c.loop-pool.page) c.listed-read.result 63 c.listed-read.new.page (0, 0) (omega (arith, long)) full page.2

pub loop-pool-init : goal.loop-pool-init
loop-pool-init g c = record { callable = c.requires.callable; book = refl; few = omega arith; long = refl; parts = 0; gone = (refl, refl, refl, refl) }

pub returns-then-read-lt-PAGE-clause-retained : goal.returns-then-read-lt-PAGE-clause-retained
returns-then-read-lt-PAGE-clause-retained g c =
    let d = (goal.at.returns-then-read-lt-PAGE-clause-retained g c).After-judged_all in
    let page = c.listed-read.ensures.page in
    let long = c.loop-pool.invariant.long in
    (suc c.loop-pool.invariant.parts, gone g d (c.args.last + 1) (part_whole page.0 c.listed-read.new.guard c.loop-pool.from (c.args.last + 1) (length c.loop-pool.page) c.listed-read.result c.listed-read.new.page (omega arith) (omega (arith, long)) page.2))

pub returns-then-end-last-clause-retained : goal.returns-then-end-last-clause-retained
returns-then-end-last-clause-retained g c =
    let d = (goal.at.returns-then-end-last-clause-retained g c).After-judged_all in
    let p = part g d c.if-read-lt-PAGE.false in
    (suc c.loop-pool.invariant.parts, gone g d (c.args.last + 1) (subst (λ (z : ℕ). HasListed c.loop-pool.from (z + 1) (pairs g d) c.listed-read.ensures.page.0 c.listed-read.new.guard) c.if-end-last.true p.listed))

pub overflow_add-from : goal.overflow_add-from
overflow_add-from g c =
    let p = part g (goal.at.overflow_add-from g c).After-judged_all c.if-read-lt-PAGE.false in
    let inside = p.inside in
    omega (arith, inside, c.if-end-last.false)

pub loop-pool-preserved : goal.loop-pool-preserved
loop-pool-preserved g c =
    let d = (goal.at.loop-pool-preserved g c).After-judged_all in
    let p = part g d c.if-read-lt-PAGE.false in
    let i = c.loop-pool.invariant in
    let before = i.few in
    let long = i.long in
    let few = p.few in
    let these = c.judged_all.ensures.few in
    record {
      callable = c.judged_all.ensures.callable;
      book = search rules;
      few = omega (arith, before, few, these);
      long = omega (arith, long);
      parts = suc i.parts;
      gone = gone g d ((get_or c.listed-read.new.page 63 (0, 0)).0 + 1) p.listed;
    }

pub loop-pool-smaller : goal.loop-pool-smaller
loop-pool-smaller g c =
    let p = part g (goal.at.loop-pool-smaller g c).After-judged_all c.if-read-lt-PAGE.false in
    let low = p.low_is in
    let inside = p.inside in
    omega (arith, low, inside, c.ranges.last)
