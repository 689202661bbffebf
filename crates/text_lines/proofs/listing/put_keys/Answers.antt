use Rattle.std.proofs.Common.{◌++◌, drop, ◌∙◌, arith}
use Rattle.std.specs.List.{flat_map}
use Rattle.std.proofs.lemmas.Result.{err_from_is_err_and}
use Rattle.spec_text.specs.Value.{key_text}
use Rattle.text_lines.proofs.Sending.{sends_item, sends_items}
use Rattle.text_lines.proofs.listing.put_keys.Goals as goal

pub returns-in_err-make_room-clause-err : goal.returns-in_err-make_room-clause-err
returns-in_err-make_room-clause-err g c =
    let p = err_from_is_err_and c.from_residual.result c.from_residual.ensures.1 in
    let b = c.in_err-make_room.ensures.broken in
    rw p.1 (
      b.0 ++ flat_map key_text (drop c.loop-key.key-index c.args.keys.now),
      sends_items key_text c.args.pending.now c.args.keys.now c.loop-key.key-index c.loop-key.invariant.sends b.1,
    )

pub loop-key-preserved : goal.loop-key-preserved
loop-key-preserved g c = record {
  sends = rw c.add_key.ensures.text (
      sends_item key_text c.args.pending.now c.args.keys.now c.loop-key.key-index 0 (omega arith) c.loop-key.invariant.sends c.in_ok-make_room.ensures.sent
      );
  room = omega (arith, c.add_key.ensures.short, c.in_ok-make_room.ensures.room);
  kept = c.in_ok-make_room.ensures.kept ∙ c.loop-key.invariant.kept;
}
