use Rattle.std.proofs.Common.{rules, arith, sym, subst, inl, inr}
use Rattle.std.proofs.lemmas.Bool.Decides.{eqb_tells}
use Rattle.spec_olc.specs.Seats.{IsTaken}
use Rattle.olc_machine.specs.inner.Inside.{state_in}
use Rattle.olc_machine.proofs.inner.Inner.least_free.Goals as goal

pub loop-id-init : goal.loop-id-init
loop-id-init g c = λ lesser h. absurd (omega (arith, h))

pub loop-id-smaller : goal.loop-id-smaller
loop-id-smaller g c = omega (arith, c.loop-id.auto.id-fits)

pub loop-id-preserved : goal.loop-id-preserved
loop-id-preserved g c = λ lesser h.
    elim (eqb_tells lesser c.loop-id.id) [
      | inl same ↦ subst (λ n. IsTaken (state_in g.A.Allocator.charge c.args.self.now) n) (sym same.1) (c.is_taken.ensures.0 (search rules))
      | inr off ↦ c.loop-id.invariant lesser (let other = off.1 in omega (arith, h, other))
    ]

pub returns-clause-least : goal.returns-clause-least
returns-clause-least g c = c.loop-id.invariant
