use Rattle.std.proofs.Common.{refl, ◌∙◌}
use Rattle.live_layout.specs.Page.{pairs_of}
use Rattle.live_reads.proofs.Finds.{keeps_then}
use Rattle.live_scans.proofs.Passes.{seen_equal, seen_since, passed_since}
use Rattle.live_scans.proofs.Nexts.{visits_since}
use Rattle.live_scans.proofs.next.visit_node.Goals as goal

pub returns-in_err-last-in-None-clause-keeps : goal.returns-in_err-last-in-None-clause-keeps
returns-in_err-last-in-None-clause-keeps g c = keeps_then c.args.seat.now.view c.nearest_child.new.seat.view c.behind.new.seat.view c.nearest_child.ensures.keeps c.behind.ensures.keeps

pub returns-in_ok-last-in-None : goal.returns-in_ok-last-in-None
returns-in_ok-last-in-None g c =
    let v = c.args.seat.now.view in
    let id = c.args.seat.now.id in
    let u = c.nearest_child.new.seat.view in
    let t = c.nearest_child.ensures in
    let w = c.behind.new.seat.view in
    let b = c.in_ok-last-in-None.ensures in
    let first = seen_equal id v u t.seen in record {
      before = refl;
      book = b.book ∙ t.book;
      id = b.id ∙ t.id;
      keeps = keeps_then v u w t.keeps b.keeps;
      seen = seen_since c.nearest_child.new.seat.id id v u w t.id first b.seen;
      visits = passed_since c.args.request.bound.up c.nearest_child.new.seat.id id v u w c.args.at.key c.in_ok-last-in-None.last t.id first b.passed;
    }

pub returns-in-Some : goal.returns-in-Some
returns-in-Some g c =
    let v = c.args.seat.now.view in
    let id = c.args.seat.now.id in
    let u = c.nearest_child.new.seat.view in
    let t = c.nearest_child.ensures in
    let w = c.beside.new.seat.view in
    let b = c.beside.ensures in
    let first = seen_equal id v u t.seen in record {
      before = b.before;
      book = b.book ∙ t.book;
      id = b.id ∙ t.id;
      keeps = keeps_then v u w t.keeps b.keeps;
      seen = seen_since c.nearest_child.new.seat.id id v u w t.id first b.seen;
      visits = visits_since c.args.request.bound.up c.nearest_child.new.seat.id id v u w c.beside.new.seat.book c.args.at c.args.request.bound.limit c.args.request.start (pairs_of g.P.RangeEntry.pair c.beside.new.buffer) c.beside.result t.id first b.visits;
    }
