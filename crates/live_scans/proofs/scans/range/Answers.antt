use Rattle.std.proofs.Common.{arith, length}
use Rattle.live_scans.proofs.Pages.{page_crossed}
use Rattle.live_scans.proofs.scans.range.Goals as goal

pub returns-then-end-eq0-clause-page : goal.returns-then-end-eq0-clause-page
returns-then-end-eq0-clause-page g c = page_crossed c.args.guard.now c.begin_only.new.guard c.args.start c.args.end (length c.args.buffer.now) (omega arith) c.in_ok-begin_only.ensures.begun
