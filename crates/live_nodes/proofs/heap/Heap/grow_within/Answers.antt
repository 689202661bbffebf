use Rattle.std.proofs.Common.{arith, ap, ◌∙◌, ◌≡◌, ℕ, ◌+◌, ◌*◌}
use Rattle.word_segments.specs.Segments.{keys}
use Rattle.live_nodes.specs.Seats.{SeatView}
use Rattle.live_nodes.specs.Plays.{given}
use Rattle.live_nodes.proofs.Steps.{may_idle}
use Rattle.live_nodes.proofs.heap.Heap.grow_within.Goals as goal

pub load-number-requires-clause-rule : goal.load-number-requires-clause-rule
load-number-requires-clause-rule g c = let s = c.args.seat.now in may_idle g.L.NodeLaw.root g.L.NodeLaw.holds s.id s.view _

pub returns-clause-room : goal.returns-clause-room
returns-clause-room g c =
    let v = c.load-number.new.seat.view in let idle = c.load-number.ensures.view in let t = c.grow-grown.ensures.grown in let more = t.2.1 (t.1.0 c.if-not-grown.false) in let s = c.size_of-count.ensures in
    let start : ℕ = c.len-first.result + keys * c.load-number.result in let first = c.len-first.ensures in let i = c.self.invariant.0 in
    let is : c.grow-grown.result.1.next ≡ start = (let m = more.0 in omega (arith, m, first, i)) in
    let low = c.if-first.false in let few = c.if-number.false in
    (s.1, s.2, omega (arith, low, few), more.2 ∙ ap (λ (z : ℕ). given v z c.grow-grown.result.1.left) is ∙ ap (given v start) more.1 ∙ ap (λ (u : SeatView _). given u start keys) idle)
