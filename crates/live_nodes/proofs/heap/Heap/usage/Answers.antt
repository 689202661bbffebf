use Rattle.std.proofs.Common.{◌≤◌, arith}
use Rattle.word_segments.proofs.Sizes.{before_mono}
use Rattle.live_nodes.proofs.Steps.{may_idle}
use Rattle.live_nodes.proofs.heap.Heap.usage.Goals as goal

pub load-number-requires-clause-rule : goal.load-number-requires-clause-rule
load-number-requires-clause-rule g c = let s = c.args.seat.now in may_idle g.L.NodeLaw.root g.L.NodeLaw.holds s.id s.view _

pub returns-clause-within : goal.returns-clause-within
returns-clause-within g c =
    let m = c.min.ensures in let n = c.min-counted.ensures in
    let few : c.min-counted.result ≤ c.self.inside.most = omega (arith, m, n) in
    let e = before_mono c.min-counted.result c.self.inside.most few in let b = c.before_of.ensures.0 in let i = c.self.invariant.3 in
    omega (arith, e, b, i)
