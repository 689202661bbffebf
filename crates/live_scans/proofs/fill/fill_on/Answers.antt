use Rattle.std.proofs.Common.{Bool, ◌+◌, cond, drop, take, sym, subst}
use Rattle.live_layout.specs.Page.{AreListed, pairs_of}
use Rattle.live_scans.specs.inner.Directions.{ascending}
use Rattle.live_scans.proofs.fill.fill_on.Goals as goal

pub returns-then-up-clause-is : goal.returns-then-up-clause-is
returns-then-up-clause-is g c = λ w n a e f s.
    let p = c.args.part in
    let r = c.fill.result in
    subst (λ (z : Bool). AreListed n p.base (cond z p.first r.reached) (cond z (r.reached + 1) (p.last + 1)) (ascending z (drop c.args.start (take r.count (pairs_of g.P.RangeEntry.pair c.fill.new.buffer))))) (sym c.if-up.true) (c.fill.ensures.is w n a e f s)

pub returns-clause-is : goal.returns-clause-is
returns-clause-is g c = λ w n a e f s.
    let p = c.args.part in
    let r = c.fill_down.result in
    subst (λ (z : Bool). AreListed n p.base (cond z p.first r.reached) (cond z (r.reached + 1) (p.last + 1)) (ascending z (drop c.args.start (take r.count (pairs_of g.P.RangeEntry.pair c.fill_down.new.buffer))))) (sym c.if-up.false) (c.fill_down.ensures.is w n a e f s)
