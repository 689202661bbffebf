use Rattle.std.proofs.Common.{◌^◌}
use Rattle.spec_map.proofs.MapLaws.{same_from_lookups}
use Rattle.spec_map.proofs.laws.known_by_lookups.Goals as goal

pub returns : goal.returns
returns g c m n h k same = same_from_lookups 0 (2 ^ 64) 0 (2 ^ 64) m n h k same
