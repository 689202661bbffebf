use Rattle.std.proofs.Common.{ℕ, ◌-◌, ◌<◌, ◌^◌}
use Rattle.spec_olc.specs.Seats.{IsTaken}
use Rattle.olc_machine.specs.inner.Inside.{state_in}
use Rattle.olc_machine.proofs.inner.Inner.least_free.Given as goal

abbrev pub invariant-loop-id : goal.invariant-loop-id
invariant-loop-id g l = (lesser : ℕ) → lesser < l.id → IsTaken (state_in g.A.Allocator.charge l.self) lesser

abbrev pub decreases-loop-id : goal.decreases-loop-id
decreases-loop-id g l = 2 ^ 64 - l.id
