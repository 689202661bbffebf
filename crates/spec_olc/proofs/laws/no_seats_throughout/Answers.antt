use Rattle.std.proofs.Common.{[], refl}
use Rattle.spec_olc.specs.Runs.{fresh}
use Rattle.spec_olc.proofs.Lasting.{none_seated}
use Rattle.spec_olc.proofs.laws.no_seats_throughout.Goals as goal

pub returns : goal.returns
returns c = λ events lines decided content r. none_seated (fresh r.run.root r.run.charge) [] r.run.entries content r.run.steps refl
