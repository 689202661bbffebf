use Rattle.std.proofs.Common.{◌^◌, arith}
use Rattle.spec_map.specs.Map.{between}
use Rattle.spec_map.proofs.NearLaws.{no_first, stored_between, absent_between, none_from, least_between}
use Rattle.spec_map.proofs.near_laws.ceiling_is_least.Goals as goal

pub returns-clause-stored : goal.returns-clause-stored
returns-clause-stored g c m k p h is =
    let l = least_between k (2 ^ 64) m p h is in stored_between k (2 ^ 64) m p l.from l.to l.stored

pub returns-clause-within : goal.returns-clause-within
returns-clause-within g c m k p h is = (least_between k (2 ^ 64) m p h is).from

pub returns-clause-least : goal.returns-clause-least
returns-clause-least g c m k j p h is at_least less =
    let l = least_between k (2 ^ 64) m p h is in absent_between k (2 ^ 64) m j at_least (omega (arith, l.to)) (l.nothing j less)

pub returns-clause-none : goal.returns-clause-none
returns-clause-none g c m k j h is at_least = none_from k m j h (no_first (between m k (2 ^ 64)) is) at_least
