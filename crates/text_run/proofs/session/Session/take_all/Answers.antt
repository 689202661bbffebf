use Rattle.std.proofs.Common.{◌∷◌, [], ◌++◌, ◌+◌, ◌<◌, List, ℕ, take, drop, length, get_or, sym, subst, arith, append_assoc}
use Rattle.std.proofs.lemmas.Result.{err_from_is_err_and}
use Rattle.std.proofs.lemmas.List.{take-append-drop, take_more}
use Rattle.text_run.specs.inner.Session.{Breaks}
use Rattle.text_run.proofs.session.Session.take_all.Goals as goal

pub returns-in_err-take-clause-err : goal.returns-in_err-take-clause-err
returns-in_err-take-clause-err g c old before s =
    let p = err_from_is_err_and c.from_residual.result c.from_residual.ensures.1 in
    let bytes = c.args.bytes.now in
    let i = c.loop-byte.byte-index in
    let lt : i < length bytes = omega arith in
    rw p.1 (record {
      front = take i bytes ++ get_or bytes i 0 ∷ [];
      back = drop (i + 1) bytes;
      parts = rw (← take_more bytes i 0 lt) (sym (take-append-drop (i + 1) bytes));
      breaks = subst (λ (bs : List ℕ). Breaks bs old (g.W.Write.contents c.take.new.output.inner))
          (append_assoc before (take i bytes) (get_or bytes i 0 ∷ []))
          (c.in_err-take.ensures.err old (before ++ take i bytes) (c.loop-byte.invariant.serves old before s));
    })
