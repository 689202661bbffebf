use Rattle.std.proofs.Common.{rules}
use Rattle.olc_words.proofs.epoch.Pins.may_reclaim.Goals as goal

pub returns-in-Some-Retired-Some : goal.returns-in-Some-Retired-Some
returns-in-Some-Retired-Some c = search rules
