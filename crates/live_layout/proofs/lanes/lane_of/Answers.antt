use Rattle.std.proofs.Common.{ap, get_or}
use Rattle.live_layout.specs.Words.{lane}
use Rattle.live_layout.proofs.lanes.lane_of.Goals as goal

pub returns : goal.returns
unfolding lane
returns c = ap (λ l. get_or l c.args.j 0) c.to_le_bytes.ensures
