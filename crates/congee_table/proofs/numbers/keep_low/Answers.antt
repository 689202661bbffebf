use Rattle.std.proofs.Common.{◌<◌, length, add-one, arith}
use Rattle.congee_table.proofs.Writes.{ids_more}
use Rattle.congee_table.proofs.numbers.keep_low.Goals as goal

pub loop-pair-preserved : goal.loop-pair-preserved
loop-pair-preserved c =
    let inside : c.loop-pair.pair-index < length c.args.pairs.now = omega (arith, c.loop-pair.auto.pairs) in
    rw (c.loop-pair.invariant, add-one) (ids_more c.loop-pair.pair-index c.args.pairs.now (0, 0) inside)
