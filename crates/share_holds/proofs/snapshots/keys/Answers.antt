use Rattle.std.proofs.Common.{refl, sym, ◌∙◌}
use Rattle.share_holds.proofs.Events.{still_may, still_then}
use Rattle.share_rule.proofs.InPlace.{left_in, slot_in, taken_in}
use Rattle.share_holds.proofs.snapshots.keys.Goals as goal

pub slot_mut-requires : goal.slot_mut-requires
slot_mut-requires g c =
    (c.take.ensures.table ∙ (c.requires.table ∙ sym c.table.ensures), slot_in _ _ _ c.args.seat.now.me c.take.new.seat.me c.requires.idle c.take.ensures.won)

pub release-requires-clause-may : goal.release-requires-clause-may
release-requires-clause-may g c =
    let m1 = c.take.new.seat.me in let x = c.in-Some.under in let y = c.in-Some.under in
    let t = taken_in _ _ _ c.args.seat.now.me m1 c.slot_mut.result.now x c.requires.idle c.take.ensures.won c.slot_mut.ensures.value c.in-Some.is in
    let left = left_in _ _ _ c.args.seat.now.me m1 y c.requires.idle c.take.ensures.won in
    (y, left, still_may _ _ _ c.args.seat.now.me _ x x t (λ m k. k) (λ k. refl))

pub returns-clause-known : goal.returns-clause-known
returns-clause-known g c =
    let m1 = c.take.new.seat.me in let x = c.in-Some.under in let y = c.in-Some.under in
    let t = taken_in _ _ _ c.args.seat.now.me m1 c.slot_mut.result.now x c.requires.idle c.take.ensures.won c.slot_mut.ensures.value c.in-Some.is in
    let left = left_in _ _ _ c.args.seat.now.me m1 y c.requires.idle c.take.ensures.won in
    still_then _ _ _ c.args.seat.now.me _ x x t c.release.new.seat.me (λ k. refl) (c.release.ensures.released y left)
