use Rattle.std.proofs.Common.{rules}
use Rattle.live_scans.proofs.Pages.{waited_none, waited_more, waited_busy}
use Rattle.live_copies.proofs.moves.copied.Goals as goal

pub loop-init : goal.loop-init
loop-init g c = (search rules, search rules, waited_none c.args.guard.now)

pub returns-in-Ok-clause-copied : goal.returns-in-Ok-clause-copied
returns-in-Ok-clause-copied g c = (c.loop.guard, c.loop.invariant.2, c.in-Ok.ensures.copied)

pub returns-in-Err-OutOfMemory-clause-refused : goal.returns-in-Err-OutOfMemory-clause-refused
returns-in-Err-OutOfMemory-clause-refused g c = waited_more c.args.guard.now c.loop.guard c.copy.new.guard c.loop.invariant.2 c.in-Err-OutOfMemory.ensures.refused

pub loop-preserved : goal.loop-preserved
loop-preserved g c = (search rules, search rules, waited_busy c.args.guard.now c.loop.guard c.copy.new.guard c.copy.result c.loop.invariant.2 (search rules) c.copy.ensures.refused)
