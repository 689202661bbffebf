use Rattle.std.proofs.Common.{rules, ◌≡◌, ℕ, ◌+◌, length, take, subst, arith}
use Rattle.live_payloads.specs.inner.Pages.{HasPageOf}
use Rattle.live_scans.proofs.Pages.{waited_none, waited_busy}
use Rattle.live_payloads.proofs.Looked.{knows_none, knows_on}
use Rattle.live_payloads.proofs.payload_congee.PayloadCongee.page.Goals as goal

pub loop-init : goal.loop-init
loop-init g c = (search rules, search rules, knows_none c.args.guard.now, waited_none c.args.guard.now.tickets)

pub returns-in-Ok-clause-page : goal.returns-in-Ok-clause-page
returns-in-Ok-clause-page g c =
    let ps = take c.in-Ok.count c.try_page.new.buffer in
    let same : length c.loop.buffer ≡ length c.args.buffer.now = omega arith in
    (c.loop.guard.tickets, c.loop.invariant.3, subst (λ (r : ℕ). HasPageOf c.args.up c.loop.guard.tickets c.args.first (c.args.last + 1) r ps c.try_page.new.guard.tickets) same c.in-Ok.ensures.page)

pub loop-preserved : goal.loop-preserved
loop-preserved g c =
    let k = c.args.guard.now in
    let m = c.loop.guard in
    let n = c.try_page.new.guard in
    (search rules, search rules, knows_on k m n c.loop.invariant.2 c.try_page.ensures.map, waited_busy k.tickets m.tickets n.tickets c.try_page.result c.loop.invariant.3 (search rules) c.try_page.ensures.busy)
