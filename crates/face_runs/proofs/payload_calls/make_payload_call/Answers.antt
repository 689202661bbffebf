use Rattle.std.proofs.Common.{ℕ, map, refl, None, Some, ◌≡◌, rules}
use Rattle.spec_map.specs.Map.{lookup}
use Rattle.face_runs.specs.declared.payload_calls.PayloadReply.TheVariants.{Listed}
use Rattle.face_runs.proofs.PayloadSteps.{seen_step, unseen_step, insert_step, insert_refused, remove_step, compute_step, empty_step, keys_step, keys_refused}
use Rattle.face_runs.proofs.payload_calls.make_payload_call.Goals as goal

pub returns-in-None : goal.returns-in-None
returns-in-None g c =
    let none : lookup c.args.map.now.pairs (g.K.Word.number c.in-Get.key) ≡ None = search rules in
    rw c.in-Get.is (seen_step g.K.Word.number g.K.Word.of_number g.P.Payload.alike g.P.Payload.tells_same c.args.map.now.pairs c.args.map.now.pairs c.in-Get.key None none)

pub returns-in-Ok : goal.returns-in-Ok
returns-in-Ok g c =
    let some : lookup c.args.map.now.pairs (g.K.Word.number c.in-Get.key) ≡ Some c.in-Some.current.now = search rules in
    rw c.in-Get.is (seen_step g.K.Word.number g.K.Word.of_number g.P.Payload.alike g.P.Payload.tells_same c.args.map.now.pairs c.args.map.now.pairs c.in-Get.key (Some c.in-Ok.copy) (c.in-Some.current.now, some, c.in-Ok.ensures.alike))

pub returns-in-Err : goal.returns-in-Err
returns-in-Err g c =
    let some : lookup c.args.map.now.pairs (g.K.Word.number c.in-Get.key) ≡ Some c.in-Some.current.now = search rules in
    rw c.in-Get.is (unseen_step g.K.Word.number g.K.Word.of_number g.P.Payload.alike g.P.Payload.tells_same c.args.map.now.pairs c.args.map.now.pairs c.in-Get.key c.in-Some.current.now some)

pub returns-in-Ok-insert : goal.returns-in-Ok-insert
returns-in-Ok-insert g c =
    let e = c.in-Ok-insert.ensures in
    rw c.in-Insert.is (insert_step g.K.Word.number g.K.Word.of_number g.P.Payload.alike g.P.Payload.tells_same c.args.map.now.pairs c.insert.new.self.pairs c.in-Insert.key c.in-Insert.payload c.in-Ok-insert.before e.before e.ok)

pub returns-in-Err-insert : goal.returns-in-Err-insert
returns-in-Err-insert g c =
    let e = c.in-Err-insert.ensures in
    rw c.in-Insert.is (insert_refused g.K.Word.number g.K.Word.of_number g.P.Payload.alike g.P.Payload.tells_same c.args.map.now.pairs c.insert.new.self.pairs c.in-Insert.key c.in-Insert.payload e.refused e.err.0)

pub returns-in-Remove : goal.returns-in-Remove
returns-in-Remove g c =
    let e = c.remove.ensures in
    rw c.in-Remove.is (remove_step g.K.Word.number g.K.Word.of_number g.P.Payload.alike g.P.Payload.tells_same c.args.map.now.pairs c.remove.new.self.pairs c.in-Remove.key c.remove.result e.before e.pairs)

pub returns-in-ComputeIfPresent : goal.returns-in-ComputeIfPresent
returns-in-ComputeIfPresent g c =
    let e = c.change.ensures in
    rw c.in-ComputeIfPresent.is (compute_step g.K.Word.number g.K.Word.of_number g.P.Payload.alike g.P.Payload.tells_same c.args.map.now.pairs c.change.new.map.pairs c.in-ComputeIfPresent.key c.in-ComputeIfPresent.answer c.change.result e.before e.absent e.present)

pub returns-in-IsEmpty : goal.returns-in-IsEmpty
returns-in-IsEmpty g c = rw c.in-IsEmpty.is (empty_step g.K.Word.number g.K.Word.of_number g.P.Payload.alike g.P.Payload.tells_same c.args.map.now.pairs c.is_empty.result c.is_empty.ensures)

pub returns-in-Ok-keys : goal.returns-in-Ok-keys
returns-in-Ok-keys g c =
    rw c.in-Keys.is (keys_step g.K.Word.number g.K.Word.of_number g.P.Payload.alike g.P.Payload.tells_same c.args.map.now.pairs (Listed c.in-Ok-keys.keys) (map (λ (e : ℕ × g.row.P.Denot). e.0) c.args.map.now.pairs, refl, c.in-Ok-keys.ensures))

pub returns-in-Err-keys : goal.returns-in-Err-keys
returns-in-Err-keys g c = rw c.in-Keys.is (keys_refused g.K.Word.number g.K.Word.of_number g.P.Payload.alike g.P.Payload.tells_same c.args.map.now.pairs)
