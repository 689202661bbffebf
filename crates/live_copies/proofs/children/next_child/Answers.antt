use Rattle.std.proofs.Common.{◌∙◌}
use Rattle.live_reads.proofs.Finds.{keeps_then}
use Rattle.live_copies.proofs.Finding.{sights_on}
use Rattle.live_copies.proofs.children.next_child.Goals as goal

pub try_next-requires-clause-sighted : goal.try_next-requires-clause-sighted
try_next-requires-clause-sighted c = sights_on c.args.seat.now.view c.loop.seat.view c.args.name c.loop.invariant.keeps c.requires.sighted

pub returns-in-Some : goal.returns-in-Some
returns-in-Some c =
    let u = c.args.seat.now.view in
    let i = c.loop.invariant in
    let t = c.in-Some.ensures in
    record { book = t.book ∙ i.book; id = t.id ∙ i.id; keeps = keeps_then u c.loop.seat.view c.try_next.new.seat.view i.keeps t.keeps; seen = t.seen ∙ i.seen; found = t.found }

pub loop-preserved : goal.loop-preserved
loop-preserved c =
    let u = c.args.seat.now.view in
    let i = c.loop.invariant in
    let t = c.try_next.ensures in
    record { book = t.book ∙ i.book; id = t.id ∙ i.id; keeps = keeps_then u c.loop.seat.view c.try_next.new.seat.view i.keeps t.keeps; seen = t.seen ∙ i.seen }
