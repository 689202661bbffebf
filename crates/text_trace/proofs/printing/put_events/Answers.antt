use Rattle.std.proofs.Common.{◌++◌, ◌∙◌, arith}
use Rattle.std.proofs.lemmas.Result.{err_from_is_err_and}
use Rattle.spec_olc.specs.declared.types.Event.TheVariants.{Reclaim}
use Rattle.text_lines.proofs.Sending.{sends_on, sends_with}
use Rattle.text_trace.proofs.Texts.{told_from, tells_event, tells_content}
use Rattle.text_trace.proofs.printing.put_events.Goals as goal

pub returns-in_err-make_room-clause-err : goal.returns-in_err-make_room-clause-err
returns-in_err-make_room-clause-err g c =
    let p = err_from_is_err_and c.from_residual.result c.from_residual.ensures.1 in
    let b = c.in_err-make_room.ensures.broken in
    let rest = told_from c.args.detail c.loop-i.i c.loop-i.pairs.items c.args.events.now c.args.lines.now c.loop-i.later.now in
    rw p.1 (b.0 ++ rest, sends_on c.loop-i.invariant.sends (sends_with rest b.1))

pub returns-in_err-put_content_after-clause-err : goal.returns-in_err-put_content_after-clause-err
returns-in_err-put_content_after-clause-err g c =
    let p = err_from_is_err_and c.from_residual-in_err-put_content_after.result c.from_residual-in_err-put_content_after.ensures.1 in
    let b = c.in_err-put_content_after.ensures.err in
    let told = tells_event c.args.detail c.args.events.now c.args.lines.now c.loop-i.i (omega arith) (omega arith) c.loop-i.pairs.items c.loop-i.later.now _ _
    c.loop-i.invariant.sends c.in_ok-make_room.ensures.sent c.add_lines.ensures in
    rw p.1 (_, sends_on told (sends_with _ b.1))

pub loop-i-preserved : goal.loop-i-preserved
loop-i-preserved g c = record {
  sends = tells_content c.args.detail c.args.events.now c.args.lines.now c.loop-i.i (omega arith) (omega arith) c.loop-i.pairs.items c.loop-i.later.now (Reclaim 0) _
      c.add_lines.new.pending
      (
      tells_event c.args.detail c.args.events.now c.args.lines.now c.loop-i.i (omega arith) (omega arith) c.loop-i.pairs.items c.loop-i.later.now _ _
      c.loop-i.invariant.sends c.in_ok-make_room.ensures.sent c.add_lines.ensures
      )
      c.in_ok-put_content_after.ensures.ok c.in_ok-put_content_after.ensures.content c.after-later.ensures;
  room = rw c.after-later.ensures c.in_ok-put_content_after.ensures.room_left;
  kept = c.in_ok-put_content_after.ensures.kept ∙ c.in_ok-make_room.ensures.kept ∙ c.loop-i.invariant.kept;
}
