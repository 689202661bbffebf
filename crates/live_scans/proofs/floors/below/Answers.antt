use Rattle.std.proofs.Common.{rules}
use Rattle.live_scans.proofs.PagesDown.{none_before}
use Rattle.live_scans.proofs.floors.below.Goals as goal

pub returns-then-key-eq0-clause-before : goal.returns-then-key-eq0-clause-before
returns-then-key-eq0-clause-before c = none_before c.args.guard.now c.begin_only.new.guard c.args.key (search rules) c.in_ok-begin_only.ensures.begun
