use Rattle.std.proofs.Common.{arith, ◌+◌}
use Rattle.live_scans.proofs.Pages.{next_beyond}
use Rattle.live_scans.proofs.scans.above.Goals as goal

pub returns-then-key-eq18446744073709551615-clause-next : goal.returns-then-key-eq18446744073709551615-clause-next
returns-then-key-eq18446744073709551615-clause-next c = next_beyond c.args.guard.now c.begin_only.new.guard (c.args.key + 1) (omega arith) c.in_ok-begin_only.ensures.begun
