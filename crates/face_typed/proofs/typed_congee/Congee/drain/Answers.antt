use Rattle.std.proofs.Common.{refl}
use denote.Param.Always.{mut_next}
use Rattle.face_typed.proofs.typed_congee.Congee.drain.Goals as goal

pub loop-key-preserved : goal.loop-key-preserved
loop-key-preserved g c =
    let called = rw (c.from_u64.ensures, c.from_u64-in-Some.ensures) at c.f.ensures in (
      mut_next g.F.FnMut _ _ _ _ _ c.f.ensures refl c.loop-key.invariant.0,
      λ last h. c.loop-key.invariant.1 last (rw c.in-Some.ensures.steps (c.f.new.self, called, h)),
    )

pub returns : goal.returns
returns g c = c.loop-key.invariant.1 c.loop-key.f (rw c.in_default.ensures.steps.0 refl)
