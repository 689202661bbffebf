use Rattle.olc_state.specs.inner.Facts.{IsSoundWorld}
use Rattle.olc_machine.specs.inner.Inside.{meant_in}
use Rattle.test_olc.proofs.tests.ends.course.Given as goal

-- the inside is sound
abbrev pub invariant-loop : goal.invariant-loop
invariant-loop g l = IsSoundWorld g.P.Payload.always_shared g.P.HasMeaning.same_meaning (meant_in g.P.HasMeaning.meaning g.A.Allocator.charge l.machine)
