use Rattle.std.proofs.Common.{rules, ◌≡◌, ℕ, length, take, subst, arith}
use Rattle.live_scans.specs.Scans.{HasPage}
use Rattle.live_scans.proofs.Pages.{waited_none, waited_busy}
use Rattle.live_payloads.proofs.Looked.{knows_none, knows_on}
use Rattle.live_payloads.proofs.payload_congee.PayloadCongee.range.Goals as goal

pub loop-init : goal.loop-init
loop-init g c = (search rules, search rules, knows_none c.args.guard.now, waited_none c.args.guard.now.tickets)

pub returns-in-Ok-clause-page : goal.returns-in-Ok-clause-page
returns-in-Ok-clause-page g c =
    let ps = take c.in-Ok.count c.try_range.new.buffer in
    let same : length c.loop.buffer ≡ length c.args.buffer.now = omega arith in
    (c.loop.guard.tickets, c.loop.invariant.3, subst (λ (r : ℕ). HasPage c.loop.guard.tickets (g.K.Word.number c.args.start.now) (g.K.Word.number c.args.end.now) r ps c.try_range.new.guard.tickets) same c.in-Ok.ensures.page)

pub loop-preserved : goal.loop-preserved
loop-preserved g c =
    let k = c.args.guard.now in
    let m = c.loop.guard in
    let n = c.try_range.new.guard in
    (search rules, search rules, knows_on k m n c.loop.invariant.2 c.try_range.ensures.map, waited_busy k.tickets m.tickets n.tickets c.try_range.result c.loop.invariant.3 (search rules) c.try_range.ensures.busy)
