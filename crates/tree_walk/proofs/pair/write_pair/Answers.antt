use Rattle.std.proofs.Common.{◌+◌, arith}
use Rattle.tree_walk.proofs.EntryLaws.{writes_none_before, writes_none_after, writes_within}
use Rattle.tree_walk.proofs.pair.write_pair.Goals as goal

pub returns-then-number-start : goal.returns-then-number-start
returns-then-number-start g c =
    let w = writes_none_before g.E.RangeEntry.entry c.args.start (c.args.last + 1) c.args.number c.args.value c.args.buffer.now c.args.count c.requires c.if-number-start.true in
    record { up = w.up; down = w.down }

pub returns-then-number-last : goal.returns-then-number-last
returns-then-number-last g c =
    let w = writes_none_after g.E.RangeEntry.entry c.args.start (c.args.last + 1) c.args.number c.args.value c.args.buffer.now c.args.count c.requires (omega (arith, c.if-number-start.false)) (omega (arith, c.if-number-last.true)) in
    record { up = w.up; down = w.down }

pub returns : goal.returns
returns g c =
    let w = writes_within g.E.RangeEntry.entry c.args.start (c.args.last + 1) c.args.number c.args.value c.args.buffer.now c.args.count c.requires (omega (arith, c.if-number-start.false)) (omega (arith, c.if-number-last.false)) (omega arith) c.write_one.new.buffer c.write_one.result c.write_one.ensures in
    record { up = w.up; down = w.down }
