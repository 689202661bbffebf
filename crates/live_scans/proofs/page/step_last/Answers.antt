use Rattle.std.proofs.Common.{arith, refl, ◌≢◌, ◌≤◌}
use Rattle.std.proofs.lemmas.List.{length-map}
use Rattle.live_reads.proofs.Stood.{last_kept}
use Rattle.live_layout.specs.Page.{pairs_of}
use Rattle.live_scans.proofs.Composed.{more_same}
use Rattle.live_scans.proofs.Passes.{leaf_step}
use Rattle.live_scans.proofs.Nexts.{leaf_at, position_above}
use Rattle.live_scans.proofs.page.step_last.Given.{Over}
use Rattle.live_scans.proofs.page.step_last.Goals as goal
use Rattle.live_scans.proofs.page.step_last.Goals.{After-part_of-part}

some_leaf : (g : Over) (c : After-part_of-part g) → 1 ≤ c.args.last.position.name
some_leaf g c = let some : c.args.last.position.name ≢ 0 = c.if-last-eq0.false in omega (arith, some)

pub leaf_page-requires-clause-named : goal.leaf_page-requires-clause-named
leaf_page-requires-clause-named g c =
    let p = c.part_of-part.result in
    let q = c.part_of-part.ensures in
    let k = c.requires.last (some_leaf g (goal.at.leaf_page-requires-clause-named g c).After-part_of-part) in
    leaf_at c.args.request.bound.up c.args.seat.now.view c.args.last c.args.key p.base p.first p.last k (omega (arith, c.if-last-key.false)) q.base.0 q.begins q.order (omega arith)

pub returns : goal.returns
returns g c =
    let id = c.args.seat.now.id in
    let u = c.args.seat.now.view in
    let x = c.leaf_page.new.seat.view in
    let e = c.in_ok-filled.ensures in
    let o = c.in_ok-filled.filled in
    let f = e.filled in
    let p = c.part_of-part.result in
    let q = c.part_of-part.ensures in
    let n = length-map c.leaf_page.new.buffer g.P.RangeEntry.pair in
    let buffer = pairs_of g.P.RangeEntry.pair c.leaf_page.new.buffer in
    let some = some_leaf g (goal.at.returns g c).After-part_of-part in
    record {
      before = e.before;
      book = e.book;
      id = e.id;
      keeps = e.keeps;
      seen = e.seen;
      trail = let at = position_above x c.args.last (last_kept u x c.args.last e.keeps c.requires.last some) in ((at, tt), (at, tt));
      leaf = tt;
      step = leaf_step c.args.request.bound.up id id u u x c.args.key c.args.request.bound.limit c.args.request.start p.base p.first p.last o.count o.reached buffer refl (more_same id u.client.seen) q.base.0 q.begins q.within q.whole f.0 (omega (arith, n, f)) f.2 f.3 (omega arith) (λ ne. omega (arith, n, f.4 ne)) e.reads;
    }
