use Rattle.std.proofs.Common.{[]}
use Rattle.spec_olc.specs.Runs.{fresh}
use Rattle.spec_olc.proofs.Lasting.{all_stay}
use Rattle.spec_olc.proofs.laws.obsolete_until_reclaimed.Goals as goal

pub returns : goal.returns
returns c = λ events lines decided content r. all_stay (fresh r.run.root r.run.charge) [] r.run.entries content r.run.steps
