use Rattle.std.proofs.Common.{rules, arith, refl, ℕ, Some, length, ◌≡◌, ◌<◌, ◌∙◌}
use Rattle.std.proofs.lemmas.List.{length-map}
use Rattle.live_layout.specs.Page.{pairs_of}
use Rattle.live_reads.specs.Paths.{Keeps}
use Rattle.live_reads.proofs.Finds.{keeps_then}
use Rattle.live_scans.specs.inner.Steps.{IsStep}
use Rattle.live_scans.specs.inner.Stops.{IsTrail, IsLeafAt}
use Rattle.live_scans.specs.declared.next.Visit.TheVariants as visits
use Rattle.live_scans.proofs.Nexts.{HasGone, visited_past, visited_read, visited_to}
use Rattle.live_scans.proofs.PathNodes.{known_kept, path_node_kept}
use Rattle.live_scans.proofs.Passes.{seen_equal, Stays, stays_then, gap_step, nothing_passed, begins_same, from_same}
use Rattle.live_scans.proofs.page.step_from.Given.{Over}
use Rattle.live_scans.proofs.page.step_from.Goals as goal
use Rattle.live_scans.proofs.page.step_from.Goals.{After-open_known, After-visit_node, In-Read, In-Goes}

-- THE NODE is open
module _ (g : Over) (c : After-open_known g) where
  opened_keeps : Keeps c.args.seat.now.view c.open_known.new.seat.view
  opened_keeps = keeps_then c.args.seat.now.view c.know.new.seat.view c.open_known.new.seat.view c.know.ensures.keeps c.open_known.ensures.keeps

-- A NODE was visited
module _ (g : Over) (c : After-visit_node g) where
  stays : Stays c.args.seat.now.book c.visit_node.new.seat.book c.args.seat.now.id c.visit_node.new.seat.id c.args.seat.now.view c.visit_node.new.seat.view
  stays =
      let i = c.loop-last.invariant in
      let t = c.visit_node.ensures in
      stays_then c.args.seat.now.book c.loop-last.seat.book c.visit_node.new.seat.book c.args.seat.now.id c.loop-last.seat.id c.visit_node.new.seat.id c.args.seat.now.view c.loop-last.seat.view c.visit_node.new.seat.view (i.book, i.id, i.keeps, i.seen) (t.book, t.id, t.keeps, t.seen)

  -- the nodes are where they were
  trail : IsTrail c.visit_node.new.seat.view c.visit_node.new.seat.book c.loop-last.at
  trail =
      let v = c.loop-last.seat.view in
      let w = c.visit_node.new.seat.view in
      let b = c.loop-last.seat.book in
      let b' = c.visit_node.new.seat.book in
      let t = c.visit_node.ensures in
      let at = c.loop-last.at in
      let i = c.loop-last.invariant.trail in
      (path_node_kept v w b b' at.low t.keeps t.book i.0, path_node_kept v w b b' at.high t.keeps t.book i.1)

  -- the buffer has room
  room : c.args.request.start < length (pairs_of g.P.RangeEntry.pair c.visit_node.new.buffer)
  room = let n = length-map c.visit_node.new.buffer g.P.RangeEntry.pair in omega (arith, n, c.requires.start)

-- and was a leaf
module _ (g : Over) (c : In-Read g) where
  was_read : IsStep c.args.request.bound.up c.args.seat.now.id c.args.seat.now.view c.visit_node.new.seat.view c.args.trail.low.at.key c.args.request.bound.limit c.args.request.start (pairs_of g.P.RangeEntry.pair c.visit_node.new.buffer) c.in-Read.step.count c.in-Read.step.last × IsLeafAt c.visit_node.new.seat.view c.in-Read.leaf
  was_read =
      let i = c.loop-last.invariant in
      let read : c.visit_node.result ≡ Some (visits.Read c.in-Read.step c.in-Read.leaf) = search rules in
      visited_read c.args.request.bound.up c.loop-last.seat.id c.args.seat.now.id c.args.seat.now.view c.loop-last.seat.view c.visit_node.new.seat.view c.visit_node.new.seat.book c.args.trail.low.at.key c.loop-last.at.low.at c.args.request.bound.limit c.args.request.start (pairs_of g.P.RangeEntry.pair c.visit_node.new.buffer) c.in-Read.step c.in-Read.leaf c.visit_node.result i.id i.seen i.passed i.low i.seam c.visit_node.ensures.visits read

-- or leads on
module _ (g : Over) (c : In-Goes g) where
  gone : HasGone c.args.request.bound.up c.args.seat.now.view c.visit_node.new.seat.view c.visit_node.new.seat.book c.args.trail.low.at.key c.loop-last.at.low.at.height c.args.request.bound.limit c.in-Goes.lower
  gone =
      let i = c.loop-last.invariant in
      let goes : c.visit_node.result ≡ Some (visits.Goes c.in-Goes.lower) = search rules in
      visited_to c.args.request.bound.up c.loop-last.seat.id c.args.seat.now.id c.args.seat.now.view c.loop-last.seat.view c.visit_node.new.seat.view c.visit_node.new.seat.book c.args.trail.low.at.key c.loop-last.at.low.at c.in-Goes.lower c.args.request.bound.limit c.args.request.start (pairs_of g.P.RangeEntry.pair c.visit_node.new.buffer) c.visit_node.result i.id i.seen i.passed i.low i.seam c.visit_node.ensures.visits goes

pub returns-in_err-here-clause-keeps : goal.returns-in_err-here-clause-keeps
returns-in_err-here-clause-keeps g c = opened_keeps g (goal.at.returns-in_err-here-clause-keeps g c).After-open_known

pub loop-last-init : goal.loop-last-init
loop-last-init g c =
    let u = c.args.seat.now.view in
    let v = c.open_known.new.seat.view in
    let b = c.args.seat.now.book in
    let book = c.open_known.ensures.book ∙ c.know.ensures.book in
    let seen = c.open_known.ensures.seen ∙ c.know.ensures.seen in
    let keeps = opened_keeps g (goal.at.loop-last-init g c).After-open_known in
    let up = c.args.request.bound.up in
    let t = c.args.trail in
    let k = c.in_ok-known.known in
    record {
      book = book;
      id = c.open_known.ensures.id ∙ c.know.ensures.id;
      keeps = keeps;
      seen = seen_equal c.args.seat.now.id u v seen;
      trail = (
        ((path_node_kept u v b c.open_known.new.seat.book t.low keeps book c.requires.trail.0).0, known_kept c.know.new.seat.view v c.know.new.seat.book c.open_known.new.seat.book t.low.at k.words.now k.head c.open_known.ensures.keeps c.open_known.ensures.book c.in_ok-known.ensures.known),
        path_node_kept u v b c.open_known.new.seat.book t.high keeps book c.requires.trail.1,
      );
      opened = c.in_ok-here.ensures.opened;
      low = from_same up t.low.at.key;
      within = c.requires.order;
      start = c.requires.start;
      seam = begins_same up t.low.at.key;
      passed = nothing_passed up u v t.low.at.key seen;
      before = refl;
    }

pub returns-in_err-last-clause-keeps : goal.returns-in_err-last-clause-keeps
returns-in_err-last-clause-keeps g c = (stays g (goal.at.returns-in_err-last-clause-keeps g c).After-visit_node).2

pub returns-in_err-last-clause-seen : goal.returns-in_err-last-clause-seen
returns-in_err-last-clause-seen g c = (stays g (goal.at.returns-in_err-last-clause-seen g c).After-visit_node).3

pub returns-in-Past : goal.returns-in-Past
returns-in-Past g c =
    let d = (goal.at.returns-in-Past g c).After-visit_node in
    let t = stays g d in
    let i = c.loop-last.invariant in
    let up = c.args.request.bound.up in
    let past : c.visit_node.result ≡ Some (visits.Past c.in-Past.last) = search rules in
    let buffer = pairs_of g.P.RangeEntry.pair c.visit_node.new.buffer in
    let passed = visited_past up c.loop-last.seat.id c.args.seat.now.id c.args.seat.now.view c.loop-last.seat.view c.visit_node.new.seat.view c.visit_node.new.seat.book c.args.trail.low.at.key c.loop-last.at.low.at c.args.request.bound.limit c.args.request.start buffer c.in-Past.last c.visit_node.result i.id i.seen i.passed i.low i.seam c.visit_node.ensures.visits past in
    let near = c.nearer.ensures in
    record {
      before = c.visit_node.ensures.before ∙ i.before;
      book = t.0;
      id = t.1;
      keeps = t.2;
      seen = t.3;
      trail = trail g d;
      leaf = tt;
      step = gap_step up c.args.seat.now.id c.args.seat.now.view c.visit_node.new.seat.view c.args.trail.low.at.key c.args.request.bound.limit c.args.request.start c.in-Past.last c.nearer.result buffer passed c.requires.order near.passed near.within near.is (room g d);
    }

pub returns-in-Read : goal.returns-in-Read
returns-in-Read g c =
    let at = goal.at.returns-in-Read g c in
    let t = stays g at.After-visit_node in
    let r = was_read g at.In-Read in
    record {
      before = c.visit_node.ensures.before ∙ c.loop-last.invariant.before;
      book = t.0;
      id = t.1;
      keeps = t.2;
      seen = t.3;
      trail = trail g at.After-visit_node;
      leaf = r.1;
      step = r.0;
    }

pub loop-last-preserved : goal.loop-last-preserved
loop-last-preserved g c =
    let at = goal.at.loop-last-preserved g c in
    let t = stays g at.After-visit_node in
    let to = gone g at.In-Goes in
    let lower = to.lower in
    let high_now = c.loop-last.invariant.trail.0.0.1 in
    let n = length-map c.visit_node.new.buffer g.P.RangeEntry.pair in
    let some_room = room g at.After-visit_node in
    record {
      book = t.0;
      id = t.1;
      keeps = t.2;
      seen = t.3;
      trail = (((to.some, omega (arith, lower, high_now), to.opened.names), tt), (trail g at.After-visit_node).0);
      opened = to.opened;
      low = to.low;
      within = to.within;
      start = omega (arith, n, some_room);
      seam = to.seam;
      passed = to.passed;
      before = c.visit_node.ensures.before ∙ c.loop-last.invariant.before;
    }

pub loop-last-smaller : goal.loop-last-smaller
loop-last-smaller g c = (gone g (goal.at.loop-last-smaller g c).In-Goes).lower
