use Rattle.std.proofs.Common.{sym, ◌∙◌}
use Rattle.spec_olc.specs.Calls.{outline_of}
use Rattle.spec_olc.specs.Meaning.{outcome_of}
use Rattle.share_holds.proofs.Events.{is_over, last_may, last_then}
use Rattle.share_rule.proofs.Holds.{place_there}
use Rattle.share_rule.proofs.InPlace.{left_in, slot_in, taken_in}
use Rattle.share_holds.proofs.holds.last_event.Goals as goal

pub slot_mut-requires : goal.slot_mut-requires
slot_mut-requires g c =
    (c.take.ensures.table ∙ (c.requires.table ∙ sym c.table.ensures), slot_in _ _ _ c.args.seat.now.me c.take.new.seat.me c.requires.idle c.take.ensures.won)

pub release-requires-clause-may : goal.release-requires-clause-may
release-requires-clause-may g c =
    let m1 = c.take.new.seat.me in let x = c.in-Some.under in let y = c.step-made.new.self in
    let t = taken_in _ _ _ c.args.seat.now.me m1 c.slot_mut.result.now x c.requires.idle c.take.ensures.won c.slot_mut.ensures.value c.in-Some.is in
    let left = left_in _ _ _ c.args.seat.now.me m1 y c.requires.idle c.take.ensures.won in
    let m = g.M.Lent.meaning in let o = outline_of c.args.op.now in let e = c.step-made.ensures in
    let over = c.requires.over in let p = over.0 in
    let was = place_there _ _ _ c.args.seat.now.me _ x c.args.id p t over.2 in
    let of = is_over o p over.1 in (
      y,
      left,
      last_may _ _ _ c.args.seat.now.me _ x c.step-made.new.self c.args.id t o p _ c.step-made.result.report.kind (outcome_of m c.step-made.result.outcome)
          over.1 over.2 (record { turns = e.turns p was of; content_on = e.content p was of; others = e.others p was of }),
    )

pub returns-clause-after : goal.returns-clause-after
returns-clause-after g c p over here =
    let m1 = c.take.new.seat.me in let x = c.in-Some.under in let y = c.step-made.new.self in
    let t = taken_in _ _ _ c.args.seat.now.me m1 c.slot_mut.result.now x c.requires.idle c.take.ensures.won c.slot_mut.ensures.value c.in-Some.is in
    let left = left_in _ _ _ c.args.seat.now.me m1 y c.requires.idle c.take.ensures.won in
    let m = g.M.Lent.meaning in let o = outline_of c.args.op.now in let e = c.step-made.ensures in
    let was = place_there _ _ _ c.args.seat.now.me _ x c.args.id p t here in
    let of = is_over o p over in
    last_then _ _ _ c.args.seat.now.me _ x c.step-made.new.self c.args.id t c.release.new.seat.me o p _ c.step-made.result.report.kind (outcome_of m c.step-made.result.outcome)
    over here (record { turns = e.turns p was of; content_on = e.content p was of; others = e.others p was of }) (c.release.ensures.released y left)
