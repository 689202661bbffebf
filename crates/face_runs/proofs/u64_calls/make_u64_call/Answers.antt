use Rattle.std.proofs.Common.{ℕ, List, refl, ap, arith}
use Rattle.spec_map.specs.Call.{ranged, replied}
use Rattle.face_runs.specs.declared.u64_calls.U64Reply.TheVariants.{Ranged}
use Rattle.face_runs.specs.Calls.{by_numbers}
use Rattle.face_runs.specs.U64Calls.{number_answer}
use Rattle.face_runs.proofs.RangeReads.{range_read}
use Rattle.face_runs.proofs.Steps.{get_step, insert_step, insert_refused, remove_step, range_answers, range_refused}
use Rattle.face_runs.proofs.u64_calls.make_u64_call.Goals as goal

pub returns-in-Get : goal.returns-in-Get
returns-in-Get g c =
    let by = by_numbers (λ key. key) (λ number. number) g.V.Word.number g.V.Word.of_number in
    rw c.in-Get.is (get_step by c.args.map.now.pairs c.args.map.now.pairs c.in-Get.key c.get.result c.get.ensures)

pub returns-in-Ok : goal.returns-in-Ok
returns-in-Ok g c =
    let by = by_numbers (λ key. key) (λ number. number) g.V.Word.number g.V.Word.of_number in
    rw c.in-Insert.is (insert_step by c.args.map.now.pairs c.insert.new.self.pairs c.in-Insert.key c.in-Insert.val c.in-Ok.before c.in-Ok.ensures.before c.in-Ok.ensures.ok)

pub returns-in-Err : goal.returns-in-Err
returns-in-Err g c =
    let by = by_numbers (λ key. key) (λ number. number) g.V.Word.number g.V.Word.of_number in
    rw c.in-Insert.is (insert_refused by c.args.map.now.pairs c.insert.new.self.pairs c.in-Insert.key c.in-Insert.val c.in-Err.ensures.refused c.in-Err.ensures.err.0)

pub returns-in-Remove : goal.returns-in-Remove
returns-in-Remove g c =
    let by = by_numbers (λ key. key) (λ number. number) g.V.Word.number g.V.Word.of_number in
    rw c.in-Remove.is (remove_step by c.args.map.now.pairs c.remove.new.self.pairs c.in-Remove.key c.remove.result c.remove.ensures.before c.remove.ensures.pairs)

pub returns-in-Ok-bytes_between : goal.returns-in-Ok-bytes_between
returns-in-Ok-bytes_between g c =
    let by = by_numbers (λ key. key) (λ number. number) g.V.Word.number g.V.Word.of_number in
    let m = c.args.map.now.pairs in
    let read = range_read c.in-Range.limit c.in-Range.start c.in-Range.end m c.in-Ok-bytes_between.pairs.items (omega arith) c.in-Ok-bytes_between.ensures in
    rw c.in-Range.is (
    range_answers by m m c.in-Range.start c.in-Range.end c.in-Range.limit (number_answer (Ranged c.in-Ok-bytes_between.pairs))
    (ap (λ (es : List (ℕ × ℕ)). replied (ranged es)) read) refl
    )

pub returns-in-Err-bytes_between : goal.returns-in-Err-bytes_between
returns-in-Err-bytes_between g c =
    let by = by_numbers (λ key. key) (λ number. number) g.V.Word.number g.V.Word.of_number in
    rw c.in-Range.is (range_refused by c.args.map.now.pairs c.args.map.now.pairs c.in-Range.start c.in-Range.end c.in-Range.limit refl)
