use Rattle.spec_olc.proofs.ScanBreaks.{never_from_end}
use Rattle.spec_olc.proofs.laws.a_range_stops_before_its_end.Goals as goal

pub returns : goal.returns
returns c = λ start end limit key events. never_from_end start end limit events key
