use Rattle.std.proofs.Common.{sym, ◌∙◌}
use Rattle.share_holds.proofs.Events.{seat_may, seat_ok, seat_err}
use Rattle.share_rule.proofs.InPlace.{left_in, slot_in, taken_in}
use Rattle.share_holds.proofs.holds.number.Goals as goal

pub slot_mut-requires : goal.slot_mut-requires
slot_mut-requires g c =
    (c.take.ensures.table ∙ (c.requires.table ∙ sym c.table.ensures), slot_in _ _ _ c.args.seat.now.me c.take.new.seat.me c.requires.idle c.take.ensures.won)

pub release-requires-clause-may : goal.release-requires-clause-may
release-requires-clause-may g c =
    let m1 = c.take.new.seat.me in let x = c.in-Some.under in let y = c.seat-seated.new.self in
    let t = taken_in _ _ _ c.args.seat.now.me m1 c.slot_mut.result.now x c.requires.idle c.take.ensures.won c.slot_mut.ensures.value c.in-Some.is in
    let left = left_in _ _ _ c.args.seat.now.me m1 y c.requires.idle c.take.ensures.won in
    let e = c.seat-seated.ensures in
    (y, left, seat_may _ _ _ c.args.seat.now.me _ x c.seat-seated.new.self 0 t c.seat-seated.result c.requires.numberless e.content e.ok e.err)

pub returns-clause-ok : goal.returns-clause-ok
returns-clause-ok g c =
    let m1 = c.take.new.seat.me in let x = c.in-Some.under in let y = c.seat-seated.new.self in
    let t = taken_in _ _ _ c.args.seat.now.me m1 c.slot_mut.result.now x c.requires.idle c.take.ensures.won c.slot_mut.ensures.value c.in-Some.is in
    let left = left_in _ _ _ c.args.seat.now.me m1 y c.requires.idle c.take.ensures.won in
    seat_ok _ _ _ c.args.seat.now.me _ x c.seat-seated.new.self 0 t c.release.new.seat.me c.seat-seated.result c.seat-seated.ensures.ok (c.release.ensures.released y left)

pub returns-clause-err : goal.returns-clause-err
returns-clause-err g c =
    let m1 = c.take.new.seat.me in let x = c.in-Some.under in let y = c.seat-seated.new.self in
    let t = taken_in _ _ _ c.args.seat.now.me m1 c.slot_mut.result.now x c.requires.idle c.take.ensures.won c.slot_mut.ensures.value c.in-Some.is in
    let left = left_in _ _ _ c.args.seat.now.me m1 y c.requires.idle c.take.ensures.won in
    seat_err _ _ _ c.args.seat.now.me _ x c.seat-seated.new.self 0 t c.release.new.seat.me c.seat-seated.result (c.release.ensures.released y left)
