use Rattle.std.proofs.Common.{rules, ◌≡◌, ℕ, ◌+◌, length, take, subst, arith}
use Rattle.std.proofs.lemmas.List.{map-id}
use Rattle.spec_map.specs.Map.{Pairs}
use Rattle.live_scans.specs.Scans.{HasPage}
use Rattle.live_scans.proofs.Pages.{waited_none, waited_busy}
use Rattle.live_pool.proofs.waits.listed.Goals as goal

pub loop-init : goal.loop-init
loop-init g c = (search rules, search rules, waited_none c.args.guard.now)

pub returns-in-Ok-clause-page : goal.returns-in-Ok-clause-page
returns-in-Ok-clause-page g c =
    let l = c.range_inclusive.new.buffer in
    let same : length c.loop.page ≡ length c.args.page.now = omega arith in
    (c.loop.guard, c.loop.invariant.2, subst (λ (z : ℕ × Pairs ℕ). HasPage c.loop.guard c.args.low (c.args.last + 1) z.0 (take c.in-Ok.count z.1) c.range_inclusive.new.guard) (λ i. (same i, map-id l i)) c.in-Ok.ensures.page)

pub loop-preserved : goal.loop-preserved
loop-preserved g c = (search rules, search rules, waited_busy c.args.guard.now c.loop.guard c.range_inclusive.new.guard c.range_inclusive.result c.loop.invariant.2 (search rules) c.range_inclusive.ensures.busy)
