use Rattle.std.proofs.Common.{sym}
use Rattle.live_scans.proofs.Uppers.{up-shifted}
use Rattle.live_scans.proofs.keys.upper.Goals as goal

pub returns : goal.returns
returns c = sym (up-shifted c.args.height c.args.key)
