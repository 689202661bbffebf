use Rattle.spec_map.proofs.Runs.{run_once}
use Rattle.spec_map.proofs.laws.run_is_determined.Goals as goal

pub returns : goal.returns
returns g c same r m n n' operations operations' one other requests = run_once same r m n n' operations operations' one other requests
