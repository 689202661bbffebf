use Rattle.std.proofs.Common.{◌+◌}
use Rattle.live_pool.proofs.Emptied.{emptied_of}
use Rattle.live_pool.proofs.removals.remove_range.Goals as goal

pub returns-clause-emptied : goal.returns-clause-emptied
returns-clause-emptied g c = emptied_of _ c.args.low (c.args.last + 1) _ _ _ _ _ c.extract_range.ensures.extracted
