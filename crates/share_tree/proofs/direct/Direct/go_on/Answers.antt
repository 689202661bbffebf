use Rattle.std.proofs.Common.{Some, sym, ap, ◌∙◌}
use Rattle.std.specs.Option.{option_copied_mut}
use Rattle.spec_olc.specs.Calls.{outline_of}
use Rattle.spec_olc.specs.Meaning.{in_some, outcome_of}
use Rattle.share_tree.proofs.Counts.{turned_counts}
use Rattle.share_tree.proofs.Current.{all_with}
use Rattle.share_tree.proofs.Turning.{of_seat, turned}
use Rattle.share_tree.proofs.direct.Direct.go_on.Goals as goal
use Rattle.share_tree.specs.Seats.{seat_stage_of}

pub invariant_of-self : goal.invariant_of-self
invariant_of-self g c =
    let here = sym c.get_mut.ensures.value ∙ (ap (λ s. option_copied_mut s) c.in-Some.is ∙ ap (λ x. Some x) (sym c.replace-before.ensures.value)) in
    all_with g.P.HasMeaning.meaning c.self.inside.tree c.turn-seat.new.tree c.turn-seat.ensures.onward c.self.inside.seats c.args.id
    c.replace-before.result c.turn-seat.result.seat here c.turn-seat.ensures.current c.self.invariant

pub returns-clause-turns : goal.returns-clause-turns
returns-clause-turns g c = λ p is of.
    let m = g.P.HasMeaning.meaning in
    let here = sym c.get_mut.ensures.value ∙ (ap (λ s. option_copied_mut s) c.in-Some.is ∙ ap (λ x. Some x) (sym c.replace-before.ensures.value)) in
    let r = c.turn-seat.result in
    let e = c.event-2.result in
    turned m c.self.inside.seats c.args.id c.replace-before.result here r.seat (in_some m c.args.env.answer) r.kind e.report.kind (outcome_of m r.outcome) (outcome_of m e.outcome) p c.event-2.ensures.kind
    (ap (λ o. outcome_of m o) c.event-2.ensures.outcome) c.turn-seat.ensures.turns (rw (← c.self.view_is) at is)

pub returns-clause-counts : goal.returns-clause-counts
returns-clause-counts g c =
    let m = g.P.HasMeaning.meaning in
    let here = sym c.get_mut.ensures.value ∙ (ap (λ s. option_copied_mut s) c.in-Some.is ∙ ap (λ x. Some x) (sym c.replace-before.ensures.value)) in
    let r = c.turn-seat.result in
    let of = of_seat m c.self.inside.seats c.args.id c.replace-before.result here (outline_of c.args.op.now) (c.runs.ensures.seated c.if-not-runs.false) in
    let counts = turned_counts m g.P.HasMeaning.same_meaning c.self.inside.tree.pairs c.turn-seat.new.tree.pairs c.is_ordered.ensures c.is_ordered-2.ensures c.args.op.now c.replace-before.result
    (in_some m c.args.env.answer) r.kind (Some (seat_stage_of m r.seat)) r.outcome of c.turn-seat.ensures.turns c.turn-seat.ensures.content
    in
    rw (← c.self.view_is, c.event-2.ensures.outcome) counts
