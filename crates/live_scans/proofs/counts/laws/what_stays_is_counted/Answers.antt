use Rattle.live_scans.proofs.Knowing.{exact}
use Rattle.live_scans.proofs.counts.laws.what_stays_is_counted.Goals as goal

pub returns : goal.returns
returns c = exact
