use Rattle.std.proofs.Common.{◌∙◌}
use Rattle.live_scans.proofs.laws.what_stays_is_given.Goals as goal

pub returns : goal.returns
returns c = λ up old new low high pairs key value read from to stays. read.value key from to ∙ stays (read.moment key) (read.between key from to)
