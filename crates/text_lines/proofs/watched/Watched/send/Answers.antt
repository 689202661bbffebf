use Rattle.std.proofs.Common.{take, drop, sym, ◌∙◌, subst, arith}
use Rattle.std.specs.Io.KnownBytes.{Appends}
use Rattle.std.proofs.Math.Seq.{take-add}
use Rattle.std.proofs.lemmas.Result.{err_from_is_err_and}
use Rattle.std.proofs.lemmas.List.{take-append-drop, take_rest, append-nil, length-drop}
use Rattle.text_lines.proofs.Sending.{appends_kept, appends_more}
use Rattle.text_lines.proofs.watched.Watched.send.Goals as goal

pub returns-in_err-at-clause-err : goal.returns-in_err-at-clause-err
returns-in_err-at-clause-err g c =
    let p = err_from_is_err_and c.from_residual.result c.from_residual.ensures.1 in
    let front = take c.loop-at.at c.args.bytes.now in
    rw p.1 (
      drop c.loop-at.at c.args.bytes.now,
      record {
        sent = front;
        grows = subst (Appends _ _) (append-nil front) (appends_more _ _ _ front _ c.loop-at.invariant.grows (appends_kept _ _ c.in_err-at.ensures.bytes));
        splits = sym (take-append-drop c.loop-at.at c.args.bytes.now);
      },
    )

pub loop-at-preserved : goal.loop-at-preserved
loop-at-preserved g c =
    let bytes = c.args.bytes.now in
    let at = c.loop-at.at in
    let n = c.in_ok-at.field-0 in
    let rest = take_rest bytes at in
    let bound = rw rest at c.in_ok-at.ensures.bound in
    let wrote = rw rest at c.in_ok-at.ensures.bytes in
    record {
      within = omega (arith, bound, length-drop at bytes);
      grows = rw (take-add at n bytes) (appends_more _ _ _ (take at bytes) (take n (drop at bytes)) c.loop-at.invariant.grows wrote);
      kept = c.in_ok-at.ensures.kept ∙ c.loop-at.invariant.kept;
    }
