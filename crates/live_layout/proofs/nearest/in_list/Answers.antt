use Rattle.std.proofs.Common.{ℕ, ◌+◌, Some, sym, ap, ◌∙◌, subst, arith}
use Rattle.live_layout.specs.Words.{at}
use Rattle.live_layout.specs.Order.{IsNearest}
use Rattle.live_layout.proofs.BestLaws.{list_some}
use Rattle.live_layout.proofs.nearest.in_list.Goals as goal

pub returns-clause-is : goal.returns-clause-is
returns-clause-is g c = λ w es a h.
    let room = c.args.room in
    let e = c.in_ok-byte in
    let read = c.word-word.ensures.read w a in
    let word = c.word-word.result in
    let child = ap (λ (x : ℕ). at w (x + e.place)) (sym c.first_child.ensures) ∙ read.0 in
    subst (λ (b : ℕ). IsNearest c.args.up es c.args.from (Some (b, word))) (sym c.turn.ensures)
    (list_some room w es h c.args.from (omega arith) c.args.up (e.byte, e.place) word child (e.ensures.is w read.1 h.few))
