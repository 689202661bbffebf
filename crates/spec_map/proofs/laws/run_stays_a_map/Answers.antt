use Rattle.spec_map.proofs.Runs.{run_stays}
use Rattle.spec_map.proofs.laws.run_stays_a_map.Goals as goal

pub returns : goal.returns
returns g c same r m n operations h wide legal = run_stays same r m n operations h wide legal
