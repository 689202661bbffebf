use Rattle.std.proofs.Common.{sym, ◌∙◌}
use Rattle.share_holds.proofs.Events.{begin_may, begin_then}
use Rattle.share_rule.proofs.Holds.{place_there}
use Rattle.share_rule.proofs.InPlace.{left_in, slot_in, taken_in}
use Rattle.share_holds.proofs.holds.begin.Goals as goal

pub slot_mut-requires : goal.slot_mut-requires
slot_mut-requires g c =
    (c.take.ensures.table ∙ (c.requires.table ∙ sym c.table.ensures), slot_in _ _ _ c.args.seat.now.me c.take.new.seat.me c.requires.idle c.take.ensures.won)

pub release-requires-clause-may : goal.release-requires-clause-may
release-requires-clause-may g c =
    let m1 = c.take.new.seat.me in let x = c.in-Some.under in let y = c.open-begun.new.self in
    let t = taken_in _ _ _ c.args.seat.now.me m1 c.slot_mut.result.now x c.requires.idle c.take.ensures.won c.slot_mut.ensures.value c.in-Some.is in
    let left = left_in _ _ _ c.args.seat.now.me m1 y c.requires.idle c.take.ensures.won in
    let e = c.open-begun.ensures in
    (y, left, begin_may _ _ _ g.M.Lent.meaning c.args.seat.now.me _ x c.open-begun.new.self c.args.id c.args.op.now t c.requires.ready e.others c.open-begun.result e.content e.refused)

pub returns-clause-begun : goal.returns-clause-begun
returns-clause-begun g c =
    let m1 = c.take.new.seat.me in let x = c.in-Some.under in let y = c.open-begun.new.self in
    let t = taken_in _ _ _ c.args.seat.now.me m1 c.slot_mut.result.now x c.requires.idle c.take.ensures.won c.slot_mut.ensures.value c.in-Some.is in
    let left = left_in _ _ _ c.args.seat.now.me m1 y c.requires.idle c.take.ensures.won in
    let e = c.open-begun.ensures in
    let was = place_there _ _ _ c.args.seat.now.me _ x c.args.id _ t c.requires.ready in
    begin_then _ _ _ g.M.Lent.meaning c.args.seat.now.me _ x c.open-begun.new.self c.args.id c.args.op.now t c.requires.ready e.others c.release.new.seat.me c.open-begun.result (e.opens was) e.content e.err was (c.release.ensures.released y left)
