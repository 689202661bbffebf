use Rattle.std.proofs.Common.{refl, subst, sym, ◌∙◌}
use Rattle.std.specs.Prelude.{Option}
use Rattle.spec_olc.specs.Calls.{outline_of}
use Rattle.spec_olc.specs.Meaning.{in_some, op_of, outcome_of}
use Rattle.share_backend.specs.declared.lent.CallStage.TheVariants.{Running}
use Rattle.share_holds.specs.inner.Events.{AfterEvent}
use Rattle.share_holds.proofs.Events.{event_may, event_then}
use Rattle.share_rule.proofs.Holds.{place_there}
use Rattle.share_rule.proofs.InPlace.{left_in, slot_in, taken_in}
use Rattle.share_holds.proofs.holds.event.Goals as goal

pub slot_mut-requires : goal.slot_mut-requires
slot_mut-requires g c =
    (c.take.ensures.table ∙ (c.requires.table ∙ sym c.table.ensures), slot_in _ _ _ c.args.seat.now.me c.take.new.seat.me c.requires.idle c.take.ensures.won)

pub release-requires-clause-may : goal.release-requires-clause-may
release-requires-clause-may g c =
    let m1 = c.take.new.seat.me in let x = c.in-Some.under in let y = c.step-made.new.self in
    let t = taken_in _ _ _ c.args.seat.now.me m1 c.slot_mut.result.now x c.requires.idle c.take.ensures.won c.slot_mut.ensures.value c.in-Some.is in
    let left = left_in _ _ _ c.args.seat.now.me m1 y c.requires.idle c.take.ensures.won in
    let m = g.M.Lent.meaning in let o = outline_of c.args.op.now in let op = op_of m c.args.op.now in let e = c.step-made.ensures in
    let s = c.requires.running.0 in let here = c.requires.running.1 in let p = Running o op s in
    let was = place_there _ _ _ c.args.seat.now.me _ x c.args.id p t here in (
      y,
      left,
      event_may _ _ _ c.args.seat.now.me _ x c.step-made.new.self c.args.id t o op s (in_some m c.env_with.result.answer) c.step-made.result.report.kind (outcome_of m c.step-made.result.outcome)
          here (record { turns = e.turns p was refl; content_on = e.content p was refl; others = e.others p was refl }),
    )

pub returns-clause-after : goal.returns-clause-after
returns-clause-after g c s here =
    let m1 = c.take.new.seat.me in let x = c.in-Some.under in let y = c.step-made.new.self in
    let t = taken_in _ _ _ c.args.seat.now.me m1 c.slot_mut.result.now x c.requires.idle c.take.ensures.won c.slot_mut.ensures.value c.in-Some.is in
    let left = left_in _ _ _ c.args.seat.now.me m1 y c.requires.idle c.take.ensures.won in
    let m = g.M.Lent.meaning in let o = outline_of c.args.op.now in let op = op_of m c.args.op.now in let e = c.step-made.ensures in
    let p = Running o op s in
    let was = place_there _ _ _ c.args.seat.now.me _ x c.args.id p t here in
    subst (λ (z : Option g.row.P.Denot). AfterEvent c.args.id o g.M.Lent.same op s (in_some m z) c.step-made.result.report.kind (outcome_of m c.step-made.result.outcome) c.args.seat.now.me c.release.new.seat.me) c.env_with.ensures
    (event_then _ _ _ c.args.seat.now.me _ x c.step-made.new.self c.args.id t c.release.new.seat.me o op s (in_some m c.env_with.result.answer) c.step-made.result.report.kind (outcome_of m c.step-made.result.outcome)
    here (record { turns = e.turns p was refl; content_on = e.content p was refl; others = e.others p was refl }) (c.release.ensures.released y left))
