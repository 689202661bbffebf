use Rattle.std.proofs.Common.{◌++◌, drop, ◌∙◌, arith}
use Rattle.std.specs.List.{flat_map}
use Rattle.std.proofs.lemmas.Result.{err_from_is_err_and}
use Rattle.spec_text.specs.Value.{pair_text}
use Rattle.text_lines.proofs.Sending.{sends_item, sends_items}
use Rattle.text_lines.proofs.listing.put_pairs.Goals as goal

pub returns-in_err-make_room-clause-err : goal.returns-in_err-make_room-clause-err
returns-in_err-make_room-clause-err g c =
    let p = err_from_is_err_and c.from_residual.result c.from_residual.ensures.1 in
    let b = c.in_err-make_room.ensures.broken in
    rw p.1 (
      b.0 ++ flat_map pair_text (drop c.loop-pair.pair-index c.args.pairs.now),
      sends_items pair_text c.args.pending.now c.args.pairs.now c.loop-pair.pair-index c.loop-pair.invariant.sends b.1,
    )

pub loop-pair-preserved : goal.loop-pair-preserved
loop-pair-preserved g c = record {
  sends = rw c.add_pair.ensures.text (
      sends_item pair_text c.args.pending.now c.args.pairs.now c.loop-pair.pair-index (0, 0) (omega arith) c.loop-pair.invariant.sends c.in_ok-make_room.ensures.sent
      );
  room = omega (arith, c.add_pair.ensures.short, c.in_ok-make_room.ensures.room);
  kept = c.in_ok-make_room.ensures.kept ∙ c.loop-pair.invariant.kept;
}
