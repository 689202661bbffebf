use Rattle.std.proofs.Common.{rules}
use Rattle.olc_words.proofs.epoch.started_after.Goals as goal

pub returns-in-Some : goal.returns-in-Some
returns-in-Some c = search rules
