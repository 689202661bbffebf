use Rattle.std.proofs.Common.{[]}
use Rattle.spec_olc.specs.Runs.{fresh}
use Rattle.spec_olc.proofs.Lasting.{all_held_once}
use Rattle.spec_olc.proofs.laws.held_once_throughout.Goals as goal

pub returns : goal.returns
returns c = λ events lines decided content r. all_held_once (fresh r.run.root r.run.charge) [] r.run.entries content r.run.steps
