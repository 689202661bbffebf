use Rattle.std.proofs.Common.{arith}
use Rattle.word_owners.proofs.Handles.{scanned_all}
use Rattle.word_owners.proofs.owners.Owners.scan.Goals as goal

pub returns-clause-scanned : goal.returns-clause-scanned
returns-clause-scanned c = let end = c.loop-hazard-test.false in scanned_all c.loop-hazard.seat.view c.loop-hazard.hazard c.loop-hazard.found.items (omega (arith, end)) c.loop-hazard.invariant.6
