use Rattle.std.proofs.Common.{sym, subst, ap, ◌∙◌}
use Rattle.share_tree.specs.Seats.{seat_stage_of}
use Rattle.share_tree.specs.declared.seat.CallSeat.{CallSeat}
use Rattle.share_tree.specs.declared.seat.CallSeat.TheVariants.{Always, Present}
use Rattle.share_tree.specs.inner.Turned.{TurnsSeatTo}
use Rattle.share_tree.proofs.turns.turn.Goals as goal

pub returns-in-Fresh-clause-turns : goal.returns-in-Fresh-clause-turns
returns-in-Fresh-clause-turns g c =
    let m = g.P.HasMeaning.meaning in
    let turns = c.begin_anew.ensures.turns c.args.answer in
    subst (λ (s : CallSeat _). TurnsSeatTo m (seat_stage_of m s) c.args.answer c.begin_anew.result) (sym c.in-Fresh.is) turns

pub returns-in-Some-clause-turns : goal.returns-in-Some-clause-turns
returns-in-Some-clause-turns g c =
    let m = g.P.HasMeaning.meaning in
    let is = c.in-Present.is ∙ ap (λ o. Present c.in-Present.question o) c.in-Some.is in
    let turns = c.present.ensures.turns c.args.answer in
    subst (λ (s : CallSeat _). TurnsSeatTo m (seat_stage_of m s) c.args.answer c.present.result) (sym is) turns

pub returns-in-Some-given-clause-turns : goal.returns-in-Some-given-clause-turns
returns-in-Some-given-clause-turns g c =
    let m = g.P.HasMeaning.meaning in
    let is = c.in-Always.is ∙ ap (λ o. Always c.in-Always.other c.in-Always.question o) c.in-Some-given.is in
    let turns = c.always.ensures.turns c.args.answer in
    subst (λ (s : CallSeat _). TurnsSeatTo m (seat_stage_of m s) c.args.answer c.always.result) (sym is) turns
