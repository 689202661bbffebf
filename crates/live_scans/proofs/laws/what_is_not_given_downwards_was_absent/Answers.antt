use Rattle.live_scans.proofs.PagesDown.{absent_down_then}
use Rattle.live_scans.proofs.laws.what_is_not_given_downwards_was_absent.Goals as goal

pub returns : goal.returns
returns c = absent_down_then
