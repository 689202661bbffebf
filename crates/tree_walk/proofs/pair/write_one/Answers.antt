use Rattle.std.proofs.Common.{◌^◌, arith}
use Rattle.tree_walk.proofs.EntryLaws.{writes_one}
use Rattle.tree_walk.proofs.pair.write_one.Goals as goal

pub returns : goal.returns
returns g c =
    (writes_one g.E.RangeEntry.entry 0 (2 ^ 64) c.args.number c.args.value c.args.buffer.now c.args.count c.requires (omega arith) (omega arith) c.from_pair.result c.from_pair.ensures).up
