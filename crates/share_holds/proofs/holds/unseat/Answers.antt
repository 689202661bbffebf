use Rattle.std.proofs.Common.{sym, ◌∙◌}
use Rattle.share_holds.proofs.Events.{unseat_may, unseat_then}
use Rattle.share_rule.proofs.InPlace.{left_in, slot_in, taken_in}
use Rattle.share_holds.proofs.holds.unseat.Goals as goal

pub slot_mut-requires : goal.slot_mut-requires
slot_mut-requires g c =
    (c.take.ensures.table ∙ (c.requires.table ∙ sym c.table.ensures), slot_in _ _ _ c.args.seat.now.me c.take.new.seat.me c.requires.idle c.take.ensures.won)

pub release-requires-clause-may : goal.release-requires-clause-may
release-requires-clause-may g c =
    let m1 = c.take.new.seat.me in let x = c.in-Some.under in let y = c.unseat.new.self in
    let t = taken_in _ _ _ c.args.seat.now.me m1 c.slot_mut.result.now x c.requires.idle c.take.ensures.won c.slot_mut.ensures.value c.in-Some.is in
    let left = left_in _ _ _ c.args.seat.now.me m1 y c.requires.idle c.take.ensures.won in
    let e = c.unseat.ensures in
    (y, left, unseat_may _ _ _ c.args.seat.now.me _ x c.unseat.new.self c.args.id t c.requires.seated.0 c.requires.seated.1 e.content e.others)

pub returns-clause-freed : goal.returns-clause-freed
returns-clause-freed g c =
    let m1 = c.take.new.seat.me in let x = c.in-Some.under in let y = c.unseat.new.self in
    let t = taken_in _ _ _ c.args.seat.now.me m1 c.slot_mut.result.now x c.requires.idle c.take.ensures.won c.slot_mut.ensures.value c.in-Some.is in
    let left = left_in _ _ _ c.args.seat.now.me m1 y c.requires.idle c.take.ensures.won in
    unseat_then _ _ _ c.args.seat.now.me _ x c.unseat.new.self c.args.id t c.release.new.seat.me (c.release.ensures.released y left)
