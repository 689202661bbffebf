use Rattle.std.proofs.Common.{subst, ℕ}
use Rattle.live_layout.specs.Page.{pairs_of}
use Rattle.live_reads.proofs.Finds.{keeps_then}
use Rattle.live_reads.proofs.Views.{if_some}
use Rattle.live_scans.specs.inner.Steps.{IsStep}
use Rattle.live_scans.proofs.Passes.{seen_equal, step_since}
use Rattle.live_scans.proofs.page.try_step.Goals as goal

pub returns-clause-keeps : goal.returns-clause-keeps
returns-clause-keeps g c = keeps_then c.args.seat.now.view c.begin.new.seat.view c.step_from.new.seat.view c.begin.ensures.keeps c.step_from.ensures.keeps

pub returns-clause-step : goal.returns-clause-step
returns-clause-step g c =
    let id = c.args.seat.now.id in
    let u = c.args.seat.now.view in
    let v = c.begin.new.seat.view in
    let w = c.step_from.new.seat.view in
    let b = c.begin.ensures in
    let r = c.args.request in
    let buffer = pairs_of g.P.RangeEntry.pair c.step_from.new.buffer in
    if_some c.step_from.result (λ s its. step_since r.bound.up c.begin.new.seat.id id u v w c.args.key r.bound.limit r.start s.step.count s.step.last buffer b.id (seen_equal id u v b.seen)
    (subst (λ (z : ℕ). IsStep r.bound.up c.begin.new.seat.id v w z r.bound.limit r.start buffer s.step.count s.step.last) c.in_ok-at.ensures.trail.0 its)) c.step_from.ensures.step
