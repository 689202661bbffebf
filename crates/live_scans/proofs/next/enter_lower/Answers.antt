use Rattle.std.proofs.Common.{rules, arith, refl, subst, ℕ}
use Rattle.live_layout.specs.Page.{pairs_of}
use Rattle.live_reads.specs.Paths.{Names}
use Rattle.live_reads.proofs.Finds.{keeps_then, names_kept}
use Rattle.live_scans.proofs.Passes.{seen_equal, step_since}
use Rattle.live_scans.proofs.next.enter_lower.Goals as goal

pub read_beside-requires-clause-lower : goal.read_beside-requires-clause-lower
read_beside-requires-clause-lower g c = c.arrive.ensures.lower (search rules)

pub returns-in_err-step-clause-keeps : goal.returns-in_err-step-clause-keeps
returns-in_err-step-clause-keeps g c = keeps_then c.args.seat.now.view c.arrive.new.seat.view c.read_beside.new.seat.view c.arrive.ensures.keeps c.read_beside.ensures.keeps

pub returns-then-lower-eq1-clause-keeps : goal.returns-then-lower-eq1-clause-keeps
returns-then-lower-eq1-clause-keeps g c = keeps_then c.args.seat.now.view c.arrive.new.seat.view c.read_beside.new.seat.view c.arrive.ensures.keeps c.read_beside.ensures.keeps

pub returns-then-lower-eq1-clause-enters : goal.returns-then-lower-eq1-clause-enters
returns-then-lower-eq1-clause-enters g c =
    let u = c.args.seat.now.view in
    let v = c.arrive.new.seat.view in
    let w = c.read_beside.new.seat.view in
    let d = c.args.lower.node in
    let a = c.arrive.ensures in
    let s = c.in_ok-step.step in
    let bound = c.args.request.bound in
    let named = names_kept v w d.name d.key d.height c.read_beside.ensures.keeps (a.opened (search rules)).names in
    (step_since bound.up c.arrive.new.seat.id c.args.seat.now.id u v w d.key bound.limit c.args.request.start s.count s.last (pairs_of g.P.RangeEntry.pair c.read_beside.new.buffer) a.id (seen_equal c.args.seat.now.id u v a.seen) c.in_ok-step.ensures.step, subst (Names w d.name d.key) c.if-lower-eq1.true named)

pub returns-clause-enters : goal.returns-clause-enters
returns-clause-enters g c = (refl, (let low = c.requires.low.0 in omega (arith, low, c.if-lower-eq1.false)), c.arrive.ensures.opened (search rules), c.arrive.ensures.seen)
