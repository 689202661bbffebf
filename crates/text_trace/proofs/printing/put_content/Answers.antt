use Rattle.std.proofs.Common.{◌∷◌, [], ◌++◌, codes, refl}
use Rattle.std.specs.List.{flat_map}
use Rattle.std.proofs.lemmas.Result.{err_from_is_err_and}
use Rattle.spec_text.specs.Lines.{ended}
use Rattle.spec_text.specs.Value.{pair_text}
use Rattle.text_lines.proofs.Sending.{sends_with, sends_line}
use Rattle.spec_text.specs.Texts.{content_text}
use Rattle.text_trace.proofs.printing.put_content.Goals as goal

pub returns-in_err-make_room-clause-err : goal.returns-in_err-make_room-clause-err
returns-in_err-make_room-clause-err g c =
    let p = err_from_is_err_and c.from_residual.result c.from_residual.ensures.1 in
    let b = c.in_err-make_room.ensures.broken in
    let line = ended (content_text c.args.content.now) in
    rw p.1 (b.0 ++ line, sends_with line b.1)

pub returns-in_err-put_pairs-clause-err : goal.returns-in_err-put_pairs-clause-err
returns-in_err-put_pairs-clause-err g c =
    let p = err_from_is_err_and c.from_residual-in_err-put_pairs.result c.from_residual-in_err-put_pairs.ensures.1 in
    let pairs = flat_map pair_text c.args.content.now in
    let b = rw c.add.ensures at c.in_err-put_pairs.ensures.err in
    rw p.1 (b.0 ++ 10 ∷ [], sends_line c.args.pending.now (codes "content") pairs _ refl c.in_ok-make_room.ensures.sent b.1)

pub returns-clause-ok : goal.returns-clause-ok
returns-clause-ok g c =
    let pairs = flat_map pair_text c.args.content.now in
    let sent = rw c.add.ensures at c.in_ok-put_pairs.ensures.ok in
    rw c.add-2.ensures (sends_line c.args.pending.now (codes "content") pairs _ refl c.in_ok-make_room.ensures.sent sent)
