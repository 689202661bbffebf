use Rattle.std.proofs.Common.{ℕ, List, refl, ap}
use Rattle.spec_map.specs.Call.{first, last, floor, below, ceiling, above, listed, ranged, replied}
use Rattle.face_runs.specs.declared.calls.Call.TheVariants as call
use Rattle.face_runs.specs.declared.calls.Reply.TheVariants.{Listed, Ranged}
use Rattle.face_runs.specs.Calls.{by_numbers, answer_of}
use Rattle.face_runs.proofs.Steps.{get_step, insert_step, insert_refused, remove_step, exchange_step, compute_if_present_step, compute_or_insert_step, compute_or_insert_refused, is_empty_step, keys_step, keys_refused, range_answers, range_refused, near_step, count_step}
use Rattle.face_runs.proofs.calls.make_call.Goals as goal

pub returns-in-Get : goal.returns-in-Get
returns-in-Get g c =
    let by = by_numbers g.K.Word.number g.K.Word.of_number g.V.Word.number g.V.Word.of_number in
    rw c.in-Get.is (get_step by c.args.map.now.pairs c.args.map.now.pairs c.in-Get.key c.get.result c.get.ensures)

pub returns-in-Ok : goal.returns-in-Ok
returns-in-Ok g c =
    let by = by_numbers g.K.Word.number g.K.Word.of_number g.V.Word.number g.V.Word.of_number in
    rw c.in-Insert.is (insert_step by c.args.map.now.pairs c.insert.new.self.pairs c.in-Insert.key c.in-Insert.value c.in-Ok.before c.in-Ok.ensures.before c.in-Ok.ensures.ok)

pub returns-in-Err : goal.returns-in-Err
returns-in-Err g c =
    let by = by_numbers g.K.Word.number g.K.Word.of_number g.V.Word.number g.V.Word.of_number in
    rw c.in-Insert.is (insert_refused by c.args.map.now.pairs c.insert.new.self.pairs c.in-Insert.key c.in-Insert.value c.in-Err.ensures.refused c.in-Err.ensures.err.0)

pub returns-in-Remove : goal.returns-in-Remove
returns-in-Remove g c =
    let by = by_numbers g.K.Word.number g.K.Word.of_number g.V.Word.number g.V.Word.of_number in
    rw c.in-Remove.is (remove_step by c.args.map.now.pairs c.remove.new.self.pairs c.in-Remove.key c.remove.result c.remove.ensures.before c.remove.ensures.pairs)

pub returns-in-CompareExchange : goal.returns-in-CompareExchange
returns-in-CompareExchange g c =
    let by = by_numbers g.K.Word.number g.K.Word.of_number g.V.Word.number g.V.Word.of_number in
    rw c.in-CompareExchange.is (
    exchange_step by c.args.map.now.pairs c.compare_exchange.new.self.pairs c.in-CompareExchange.key c.in-CompareExchange.old c.in-CompareExchange.new c.compare_exchange.result
    c.compare_exchange.ensures.absent c.compare_exchange.ensures.same c.compare_exchange.ensures.other
    )

pub returns-in-ComputeIfPresent : goal.returns-in-ComputeIfPresent
returns-in-ComputeIfPresent g c =
    let by = by_numbers g.K.Word.number g.K.Word.of_number g.V.Word.number g.V.Word.of_number in
    rw c.in-ComputeIfPresent.is (
    compute_if_present_step by c.args.map.now.pairs c.change.new.map.pairs c.in-ComputeIfPresent.key c.in-ComputeIfPresent.answer c.change.result
    c.change.ensures.absent c.change.ensures.present
    )

pub returns-in-Ok-set : goal.returns-in-Ok-set
returns-in-Ok-set g c =
    let by = by_numbers g.K.Word.number g.K.Word.of_number g.V.Word.number g.V.Word.of_number in
    rw c.in-ComputeOrInsert.is (
    compute_or_insert_step by c.args.map.now.pairs c.set.new.map.pairs c.in-ComputeOrInsert.key c.in-ComputeOrInsert.answer c.in-Ok-set.before
    c.in-Ok-set.ensures.before c.in-Ok-set.ensures.ok
    )

pub returns-in-Err-set : goal.returns-in-Err-set
returns-in-Err-set g c =
    let by = by_numbers g.K.Word.number g.K.Word.of_number g.V.Word.number g.V.Word.of_number in
    rw c.in-ComputeOrInsert.is (
    compute_or_insert_refused by c.args.map.now.pairs c.set.new.map.pairs c.in-ComputeOrInsert.key c.in-ComputeOrInsert.answer
    c.in-Err-set.ensures.refused c.in-Err-set.ensures.err
    )

pub returns-in-IsEmpty : goal.returns-in-IsEmpty
returns-in-IsEmpty g c =
    let by = by_numbers g.K.Word.number g.K.Word.of_number g.V.Word.number g.V.Word.of_number in
    rw c.in-IsEmpty.is (is_empty_step by c.args.map.now.pairs c.is_empty.result c.is_empty.ensures)

pub returns-in-Ok-keys : goal.returns-in-Ok-keys
returns-in-Ok-keys g c =
    let by = by_numbers g.K.Word.number g.K.Word.of_number g.V.Word.number g.V.Word.of_number in
    rw c.in-Keys.is (keys_step by c.args.map.now.pairs c.args.map.now.pairs (Listed c.in-Ok-keys.keys) (ap (λ (ks : List g.row.K.Denot). replied (listed ks)) c.in-Ok-keys.ensures) refl)

pub returns-in-Err-keys : goal.returns-in-Err-keys
returns-in-Err-keys g c =
    let by = by_numbers g.K.Word.number g.K.Word.of_number g.V.Word.number g.V.Word.of_number in
    rw c.in-Keys.is (keys_refused by c.args.map.now.pairs c.args.map.now.pairs refl)

pub returns-in-Ok-pairs_between : goal.returns-in-Ok-pairs_between
returns-in-Ok-pairs_between g c =
    let by = by_numbers g.K.Word.number g.K.Word.of_number g.V.Word.number g.V.Word.of_number in
    rw c.in-Range.is (
    range_answers by c.args.map.now.pairs c.args.map.now.pairs c.in-Range.start c.in-Range.end c.in-Range.limit (answer_of (Ranged c.in-Ok-pairs_between.pairs))
    (ap (λ (es : List (ℕ × ℕ)). replied (ranged es)) c.in-Ok-pairs_between.ensures) refl
    )

pub returns-in-Err-pairs_between : goal.returns-in-Err-pairs_between
returns-in-Err-pairs_between g c =
    let by = by_numbers g.K.Word.number g.K.Word.of_number g.V.Word.number g.V.Word.of_number in
    rw c.in-Range.is (range_refused by c.args.map.now.pairs c.args.map.now.pairs c.in-Range.start c.in-Range.end c.in-Range.limit refl)

pub returns-in-First : goal.returns-in-First
returns-in-First g c =
    let by = by_numbers g.K.Word.number g.K.Word.of_number g.V.Word.number g.V.Word.of_number in
    rw c.in-First.is (near_step by c.args.map.now.pairs call.First first c.first.result refl c.first.ensures)

pub returns-in-Last : goal.returns-in-Last
returns-in-Last g c =
    let by = by_numbers g.K.Word.number g.K.Word.of_number g.V.Word.number g.V.Word.of_number in
    rw c.in-Last.is (near_step by c.args.map.now.pairs call.Last last c.last.result refl c.last.ensures)

pub returns-in-Floor : goal.returns-in-Floor
returns-in-Floor g c =
    let by = by_numbers g.K.Word.number g.K.Word.of_number g.V.Word.number g.V.Word.of_number in
    rw c.in-Floor.is (near_step by c.args.map.now.pairs (call.Floor c.in-Floor.key) (floor c.in-Floor.key) c.floor.result refl c.floor.ensures)

pub returns-in-Below : goal.returns-in-Below
returns-in-Below g c =
    let by = by_numbers g.K.Word.number g.K.Word.of_number g.V.Word.number g.V.Word.of_number in
    rw c.in-Below.is (near_step by c.args.map.now.pairs (call.Below c.in-Below.key) (below c.in-Below.key) c.below.result refl c.below.ensures)

pub returns-in-Ceiling : goal.returns-in-Ceiling
returns-in-Ceiling g c =
    let by = by_numbers g.K.Word.number g.K.Word.of_number g.V.Word.number g.V.Word.of_number in
    rw c.in-Ceiling.is (near_step by c.args.map.now.pairs (call.Ceiling c.in-Ceiling.key) (ceiling c.in-Ceiling.key) c.ceiling.result refl c.ceiling.ensures)

pub returns-in-Above : goal.returns-in-Above
returns-in-Above g c =
    let by = by_numbers g.K.Word.number g.K.Word.of_number g.V.Word.number g.V.Word.of_number in
    rw c.in-Above.is (near_step by c.args.map.now.pairs (call.Above c.in-Above.key) (above c.in-Above.key) c.above.result refl c.above.ensures)

pub returns-in-ValueCount : goal.returns-in-ValueCount
returns-in-ValueCount g c =
    let by = by_numbers g.K.Word.number g.K.Word.of_number g.V.Word.number g.V.Word.of_number in
    rw c.in-ValueCount.is (count_step by c.args.map.now.pairs c.value_count.result c.value_count.ensures)
