use Rattle.std.proofs.Common.{◌^◌}
use Rattle.spec_map.proofs.MapLaws.{lookup-without_same, lookup-without_other}
use Rattle.spec_map.proofs.laws.lookup_after_without.Goals as goal

pub returns-clause-same : goal.returns-clause-same
returns-clause-same g c m k h = lookup-without_same 0 (2 ^ 64) m k h

pub returns-clause-other : goal.returns-clause-other
returns-clause-other g c m k j other = lookup-without_other m k j other
