use Rattle.std.proofs.Common.{arith}
use Rattle.word_hazards.proofs.Scans.{reclaims}
use Rattle.word_hazards.proofs.scan.reclaim.Goals as goal

pub compare_exchange-found-requires-clause-rule : goal.compare_exchange-found-requires-clause-rule
compare_exchange-found-requires-clause-rule c = let p = c.present-retired.ensures.state in reclaims _ _ c.args.ticket c.requires.peeked.0 _ c.requires.slot c.requires.peeked.1 c.requires.unlent _ (omega (arith, p.0))
