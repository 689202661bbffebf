use Rattle.std.proofs.Common.{arith, ℕ, subst}
use Rattle.share_visits.specs.Written.{AreWritten}
use Rattle.share_visits.proofs.Writing.{below_zero}
use Rattle.spec_map.specs.Map.{between}
use Rattle.share_visits.proofs.ranges.list_below.Goals as goal

pub returns-then-end-eq0-clause-written : goal.returns-then-end-eq0-clause-written
returns-then-end-eq0-clause-written g c = λ all h. below_zero g.M.Pages.entry all c.args.start c.args.end c.args.buffer.now c.if-end-eq0.true

pub returns-clause-written : goal.returns-clause-written
returns-clause-written g c = λ all h.
    let some = c.if-end-eq0.false in
    subst (λ (k : ℕ). AreWritten g.M.Pages.entry (between all c.args.start k) c.args.buffer.now c.list.result c.list.new.buffer) (omega (arith, some)) (c.list.ensures.written all h)
