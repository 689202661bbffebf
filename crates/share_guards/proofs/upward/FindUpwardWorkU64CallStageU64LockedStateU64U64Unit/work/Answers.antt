use Rattle.std.proofs.Common.{ℕ, Option, refl, ap}
use Rattle.spec_map.specs.Call.{found}
use Rattle.share_guards.proofs.upward.FindUpwardWorkU64CallStageU64LockedStateU64U64Unit.work.Goals as goal

pub returns-clause-goes : goal.returns-clause-goes
returns-clause-goes g c = λ m has. (m, has, ((refl, ap (λ (o : Option (ℕ × ℕ)). found o) (c.upward-self.ensures m has)), refl))
