use Rattle.std.proofs.Common.{rules, ◌≡◌, ◌+◌, Option, None, IfNone, true, take, subst}
use Rattle.live_scans.specs.Scans.{GaveUp}
use Rattle.live_pool.proofs.Missed.{missed_none, missed_busy}
use Rattle.live_pool.proofs.Parts.{part_then}
use Rattle.live_pool.proofs.removals.taken_part.Goals as goal

pub loop-init : goal.loop-init
loop-init g c = (search rules, search rules, missed_none true c.args.low (c.args.last + 1) c.args.guard.now)

pub returns-in-Some-take_part-clause-part : goal.returns-in-Some-take_part-clause-part
returns-in-Some-take_part-clause-part g c = part_then c.args.low (c.args.last + 1) (take c.in-Some-take_part.count c.take_part.new.page) c.args.guard.now c.loop.guard c.take_part.new.guard c.loop.invariant.2 c.in-Some-take_part.ensures.part

pub loop-preserved : goal.loop-preserved
loop-preserved g c =
    let none : c.take_part.result ≡ None = search rules in
    let missed = subst (λ (z : Option _). IfNone z (GaveUp c.loop.guard c.take_part.new.guard)) none c.take_part.ensures.missed in
    (search rules, search rules, missed_busy true c.args.low (c.args.last + 1) c.args.guard.now c.loop.guard c.take_part.new.guard c.loop.invariant.2 missed)
