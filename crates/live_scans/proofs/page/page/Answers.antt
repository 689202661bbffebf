use Rattle.std.proofs.Common.{rules, arith, refl, ℕ, None, take, length, ◌≡◌, ◌<◌}
use Rattle.std.proofs.lemmas.List.{length-map}
use Rattle.live_nodes.specs.Seats.{place}
use Rattle.live_reads.proofs.Finds.{when_out}
use Rattle.live_reads.specs.Positions.{KnowsLast}
use Rattle.live_reads.proofs.Stood.{last_kept}
use Rattle.live_layout.specs.Page.{pairs_of}
use Rattle.live_scans.specs.inner.Directions.{low_of, high_of, ascending}
use Rattle.live_scans.specs.inner.Moments.{Reads}
use Rattle.live_scans.specs.inner.Steps.{IsStep, IsPage}
use Rattle.live_scans.proofs.Composed.{more_same}
use Rattle.live_scans.proofs.Nexts.{position_on}
use Rattle.live_scans.proofs.Passes.{keeps_same, Stays, stays_then, page_begins, page_step, page_on, from_then, fewer_left}
use Rattle.live_scans.proofs.page.page.Given.{Over}
use Rattle.live_scans.proofs.page.page.Goals as goal
use Rattle.live_scans.proofs.page.page.Goals.{After-read_on, After-leaf_after}

-- A STEP was made
module _ (g : Over) (c : After-read_on g) where
  kept : KnowsLast c.read_on.new.seat.view c.loop-stepped.last
  kept = last_kept c.loop-stepped.seat.view c.read_on.new.seat.view c.loop-stepped.last c.read_on.ensures.keeps c.loop-stepped.invariant.last

  stays : Stays c.args.seat.now.book c.read_on.new.seat.book c.args.seat.now.id c.read_on.new.seat.id c.args.seat.now.view c.read_on.new.seat.view
  stays =
      let i = c.loop-stepped.invariant in
      let t = c.read_on.ensures in
      stays_then c.args.seat.now.book c.loop-stepped.seat.book c.read_on.new.seat.book c.args.seat.now.id c.loop-stepped.seat.id c.read_on.new.seat.id c.args.seat.now.view c.loop-stepped.seat.view c.read_on.new.seat.view (i.book, i.id, i.keeps, i.seen) (t.book, t.id, t.keeps, t.seen)

  abbrev Steps : ℕ → ℕ → Type 0
  Steps count last = IsStep c.args.bound.up c.loop-stepped.seat.id c.loop-stepped.seat.view c.read_on.new.seat.view c.loop-stepped.from c.args.bound.limit c.loop-stepped.count (pairs_of g.P.RangeEntry.pair c.read_on.new.buffer) count last

  -- so all up to its key was read
  reads : (count last : ℕ) → Steps count last → Reads c.args.bound.up c.args.seat.now.id c.args.seat.now.view c.read_on.new.seat.view (low_of c.args.bound.up c.args.key last) (high_of c.args.bound.up c.args.key last) (ascending c.args.bound.up (take count (pairs_of g.P.RangeEntry.pair c.read_on.new.buffer)))
  reads count last its =
      let i = c.loop-stepped.invariant in
      page_step c.args.bound.up c.loop-stepped.seat.id c.args.seat.now.id c.args.seat.now.view c.loop-stepped.seat.view c.read_on.new.seat.view c.args.key c.loop-stepped.from c.args.bound.limit c.loop-stepped.count count last (pairs_of g.P.RangeEntry.pair c.loop-stepped.buffer) (pairs_of g.P.RangeEntry.pair c.read_on.new.buffer) i.id i.seen i.read c.read_on.ensures.before i.order i.seam its

  -- and that may be the page
  page : (count last : ℕ) → Steps count last → (count < length (pairs_of g.P.RangeEntry.pair c.read_on.new.buffer) → last ≡ c.args.bound.limit) → IsPage c.args.bound.up c.args.seat.now.id c.args.seat.now.view c.read_on.new.seat.view c.args.key c.args.bound.limit (pairs_of g.P.RangeEntry.pair c.read_on.new.buffer) count last
  page count last its whole = record {
    order = from_then c.args.bound.up c.args.key c.loop-stepped.from last c.loop-stepped.invariant.order its.order;
    within = its.within;
    few = its.few;
    whole = whole;
    reads = reads count last its;
  }

-- and its leaf is the last one
last_then : (g : Over) (c : After-leaf_after g) → KnowsLast c.read_on.new.seat.view c.leaf_after.result
last_then g c =
    let w = c.read_on.new.seat.view in
    let at = (goal.at.After-leaf_after g c).After-read_on in
    c.leaf_after.ensures w (position_on c.args.seat.now.view w c.args.root (stays g at).2 c.requires.root.0) c.in_ok-stepped.ensures.leaf (kept g at)

pub loop-stepped-init : goal.loop-stepped-init
loop-stepped-init g c =
    let u = c.args.seat.now.view in
    let begins = page_begins c.args.bound.up u.client.seen c.args.key (pairs_of g.P.RangeEntry.pair c.args.buffer.now) in record {
      book = refl;
      id = refl;
      keeps = keeps_same u;
      seen = more_same c.args.seat.now.id u.client.seen;
      room = c.requires.room;
      order = begins.2;
      within = c.requires.order;
      seam = begins.1;
      trail = ((c.requires.root.0, tt), (c.requires.root.0, tt));
      last = c.requires.last;
      read = begins.0;
    }

pub read_on-requires-clause-root_word : goal.read_on-requires-clause-root_word
read_on-requires-clause-root_word g c = c.loop-stepped.invariant.keeps.places (place 0 1 1) c.requires.root_word

pub returns-in_err-stepped : goal.returns-in_err-stepped
returns-in_err-stepped g c =
    let t = stays g (goal.at.returns-in_err-stepped g c).After-read_on in
    let out : c.from_residual.result ≡ None = search rules in record {
      book = t.0;
      id = t.1;
      keeps = t.2;
      seen = t.3;
      last = kept g (goal.at.returns-in_err-stepped g c).After-read_on;
      page = when_out (λ s. IsPage c.args.bound.up c.args.seat.now.id c.args.seat.now.view c.read_on.new.seat.view c.args.key c.args.bound.limit (pairs_of g.P.RangeEntry.pair c.read_on.new.buffer) s.count s.last) c.from_residual.result out;
    }

pub returns-then-step-buffer : goal.returns-then-step-buffer
returns-then-step-buffer g c =
    let d = (goal.at.returns-then-step-buffer g c).After-read_on in
    let t = stays g d in
    let s = c.in_ok-stepped.stepped.step in
    let n = length-map c.read_on.new.buffer g.P.RangeEntry.pair in
    record { book = t.0; id = t.1; keeps = t.2; seen = t.3; last = last_then g (goal.at.returns-then-step-buffer g c).After-leaf_after; page = page g d s.count s.last c.in_ok-stepped.ensures.step (λ l. absurd (omega (arith, n, l, c.if-step-buffer.true))) }

pub returns-then-step-bound : goal.returns-then-step-bound
returns-then-step-bound g c =
    let d = (goal.at.returns-then-step-bound g c).After-read_on in
    let t = stays g d in
    let s = c.in_ok-stepped.stepped.step in
    record { book = t.0; id = t.1; keeps = t.2; seen = t.3; last = last_then g (goal.at.returns-then-step-bound g c).After-leaf_after; page = page g d s.count s.last c.in_ok-stepped.ensures.step (λ l. c.if-step-bound.true) }

pub loop-stepped-preserved : goal.loop-stepped-preserved
loop-stepped-preserved g c =
    let d = (goal.at.loop-stepped-preserved g c).After-read_on in
    let t = stays g d in
    let s = c.in_ok-stepped.stepped.step in
    let its = c.in_ok-stepped.ensures.step in
    let few = its.few in
    let up = c.args.bound.up in
    let n = length-map c.read_on.new.buffer g.P.RangeEntry.pair in
    let next = c.key_after-from.ensures in
    let order = from_then up c.args.key c.loop-stepped.from s.last c.loop-stepped.invariant.order its.order in
    let on = page_on up c.args.seat.now.id c.args.seat.now.view c.read_on.new.seat.view c.args.key s.last c.key_after-from.result (take s.count (pairs_of g.P.RangeEntry.pair c.read_on.new.buffer)) order (its.seam (omega (arith, n, few, c.if-step-buffer.false)) c.if-step-bound.false) next.next (reads g d s.count s.last its) in
    record {
      book = t.0;
      id = t.1;
      keeps = t.2;
      seen = t.3;
      room = omega (arith, n, few, c.if-step-buffer.false);
      order = on.2;
      within = next.within;
      seam = on.1;
      trail = c.in_ok-stepped.ensures.trail;
      last = last_then g (goal.at.loop-stepped-preserved g c).After-leaf_after;
      read = on.0;
    }

pub loop-stepped-smaller : goal.loop-stepped-smaller
loop-stepped-smaller g c =
    let its = c.in_ok-stepped.ensures.step in
    let s = c.in_ok-stepped.stepped.step in
    fewer_left c.args.bound.up c.args.bound.limit c.loop-stepped.from s.last c.key_after-from.result its.order its.within c.if-step-bound.false c.key_after-from.ensures.next
