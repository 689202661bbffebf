use Rattle.std.proofs.Common.{◌^◌}
use Rattle.spec_map.proofs.NearLaws.{first_rest, last_at, no_first, no_last}
use Rattle.spec_map.proofs.near_laws.map_without_an_end.Goals as goal

pub returns-clause-first : goal.returns-clause-first
returns-clause-first g c m p is = first_rest m p is

pub returns-clause-last : goal.returns-clause-last
returns-clause-last g c m p h is = (last_at 0 (2 ^ 64) m p h is).rest

pub returns-clause-no_first : goal.returns-clause-no_first
returns-clause-no_first g c m is = no_first m is

pub returns-clause-no_last : goal.returns-clause-no_last
returns-clause-no_last g c m is = no_last m is
