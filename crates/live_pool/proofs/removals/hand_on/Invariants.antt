use Rattle.std.proofs.Common.{take}
use Rattle.live_pool.specs.inner.Parts.{HaveHandedOn}
use Rattle.live_pool.proofs.removals.hand_on.Given as goal

abbrev pub invariant-loop-i : goal.invariant-loop-i
invariant-loop-i g l = record {
  ready : g.T.Receiver.ready l.f;
  handed : HaveHandedOn g.T.Receiver.step (take l.i l.pairs) l.fn.f l.f;
}
