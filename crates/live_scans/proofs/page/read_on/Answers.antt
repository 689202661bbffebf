use Rattle.std.proofs.Common.{◌∙◌}
use Rattle.live_nodes.specs.Seats.{place}
use Rattle.live_reads.proofs.Finds.{keeps_then}
use Rattle.live_layout.specs.Page.{pairs_of}
use Rattle.live_scans.proofs.Passes.{seen_since, step_since}
use Rattle.live_scans.proofs.PathNodes.{trail_kept}
use Rattle.live_scans.proofs.page.read_on.Goals as goal

pub loop-init : goal.loop-init
loop-init g c =
    let t = c.step_last.ensures in record {
      book = t.book;
      id = t.id;
      keeps = t.keeps;
      seen = t.seen;
      trail = trail_kept c.args.onward.trail c.args.seat.now.view c.step_last.new.seat.view c.args.seat.now.book c.step_last.new.seat.book t.book t.keeps c.requires.trail;
      before = t.before;
    }

pub try_step-requires-clause-root_word : goal.try_step-requires-clause-root_word
try_step-requires-clause-root_word g c = c.loop.invariant.keeps.places (place 0 1 1) c.requires.root_word

pub returns-in-Some-try_step : goal.returns-in-Some-try_step
returns-in-Some-try_step g c =
    let u = c.args.seat.now.view in
    let id = c.args.seat.now.id in
    let i = c.loop.invariant in
    let v = c.loop.seat.view in
    let w = c.try_step.new.seat.view in
    let t = c.in-Some-try_step.ensures in
    let s = c.in-Some-try_step.stepped.step in record {
      before = t.before ∙ i.before;
      book = t.book ∙ i.book;
      id = t.id ∙ i.id;
      keeps = keeps_then u v w i.keeps t.keeps;
      seen = seen_since c.loop.seat.id id u v w i.id i.seen t.seen;
      trail = t.trail;
      leaf = t.leaf;
      step = step_since c.args.request.bound.up c.loop.seat.id id u v w c.args.key c.args.request.bound.limit c.args.request.start s.count s.last (pairs_of g.P.RangeEntry.pair c.try_step.new.buffer) i.id i.seen t.step;
    }

pub loop-preserved : goal.loop-preserved
loop-preserved g c =
    let u = c.args.seat.now.view in
    let id = c.args.seat.now.id in
    let i = c.loop.invariant in
    let v = c.loop.seat.view in
    let w = c.try_step.new.seat.view in
    let t = c.try_step.ensures in
    record {
      book = t.book ∙ i.book;
      id = t.id ∙ i.id;
      keeps = keeps_then u v w i.keeps t.keeps;
      seen = seen_since c.loop.seat.id id u v w i.id i.seen t.seen;
      trail = tt;
      before = t.before ∙ i.before;
    }
