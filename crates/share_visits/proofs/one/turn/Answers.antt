use Rattle.std.proofs.Common.{◌∙◌, arith, refl}
use Rattle.share_visits.proofs.Turning.{turned_all, turned_more, turned_none}
use Rattle.share_visits.proofs.one.turn.Goals as goal

pub turns-init : goal.turns-init
turns-init g c = (refl, refl, turned_none c.args.seat.now.me.1)

pub turns-preserved : goal.turns-preserved
turns-preserved g c =
    let inv = c.turns.invariant in (
      c.turn.ensures.0 ∙ inv.0,
      (λ i. (c.turn.ensures.2 i).0) ∙ inv.1,
      turned_more c.turns.counter c.args.seat.now.me.1 c.turns.seat.me.1 c.turn.new.self.me.1 inv.2 (λ i. (c.turn.ensures.2 i).1),
    )

pub returns-clause-turned : goal.returns-clause-turned
returns-clause-turned g c = λ first others is long.
    turned_all c.turns.counter c.args.seat.now.me.1 c.turns.seat.me.1 c.turns.invariant.2 first others is (omega (arith, long))
