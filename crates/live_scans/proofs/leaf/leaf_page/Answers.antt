use Rattle.std.proofs.Common.{cond, ◌+◌, take, drop}
use Rattle.live_layout.specs.Page.{pairs_of}
use Rattle.live_reads.proofs.Finds.{keeps_then}
use Rattle.live_reads.proofs.Views.{if_some}
use Rattle.live_scans.specs.inner.Directions.{low_of, high_of, ascending}
use Rattle.live_scans.proofs.Composed.{reads_since}
use Rattle.live_scans.proofs.Wholes.{leaf_entered}
use Rattle.live_scans.proofs.Passes.{seen_equal, seen_since}
use Rattle.live_scans.proofs.leaf.leaf_page.Goals as goal

pub returns-in_err-leaf-clause-seen : goal.returns-in_err-leaf-clause-seen
returns-in_err-leaf-clause-seen g c = seen_equal c.args.seat.now.id c.args.seat.now.view c.enter.new.seat.view c.enter.ensures.seen

pub read_leaf-requires-clause-open : goal.read_leaf-requires-clause-open
read_leaf-requires-clause-open g c = leaf_entered c.enter.new.seat.view c.enter.new.seat.book c.in_ok-leaf.leaf.words.now c.in_ok-leaf.leaf.taken c.args.name (c.args.part.base + c.args.part.first) c.in_ok-leaf.ensures.open

pub returns-clause-keeps : goal.returns-clause-keeps
returns-clause-keeps g c = keeps_then c.args.seat.now.view c.enter.new.seat.view c.read_leaf.new.seat.view c.enter.ensures.keeps c.read_leaf.ensures.keeps

pub returns-clause-seen : goal.returns-clause-seen
returns-clause-seen g c =
    let u = c.args.seat.now.view in
    let v = c.enter.new.seat.view in
    seen_since c.enter.new.seat.id c.args.seat.now.id u v c.read_leaf.new.seat.view c.enter.ensures.id (seen_equal c.args.seat.now.id u v c.enter.ensures.seen) c.read_leaf.ensures.seen

pub returns-clause-reads : goal.returns-clause-reads
returns-clause-reads g c =
    let u = c.args.seat.now.view in
    let v = c.enter.new.seat.view in
    let id = c.args.seat.now.id in
    let from = c.args.part.base + cond c.args.up c.args.part.first c.args.part.last in
    if_some c.read_leaf.result (λ f r. let to = c.args.part.base + f.reached in
    reads_since c.args.up c.enter.new.seat.id id u v c.read_leaf.new.seat.view (low_of c.args.up from to) (high_of c.args.up from to) (ascending c.args.up (drop c.args.start (take f.count (pairs_of g.P.RangeEntry.pair c.read_leaf.new.buffer)))) c.enter.ensures.id (seen_equal id u v c.enter.ensures.seen) r) c.read_leaf.ensures.reads
