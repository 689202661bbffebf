use Rattle.std.proofs.Common.{◌+◌, ◌^◌, arith}
use Rattle.spec_map.specs.Map.{between}
use Rattle.spec_map.proofs.NearLaws.{no_last, stored_between, absent_between, none_between, greatest_between}
use Rattle.spec_map.proofs.near_laws.floor_is_greatest.Goals as goal

pub returns-clause-stored : goal.returns-clause-stored
returns-clause-stored g c m k p h is =
    let l = greatest_between 0 (k + 1) 0 (2 ^ 64) m p h is in stored_between 0 (k + 1) m p (omega arith) l.to l.stored

pub returns-clause-within : goal.returns-clause-within
returns-clause-within g c m k p h is = let l = greatest_between 0 (k + 1) 0 (2 ^ 64) m p h is in omega (arith, l.to)

pub returns-clause-greatest : goal.returns-clause-greatest
returns-clause-greatest g c m k j p h is more at_most =
    let l = greatest_between 0 (k + 1) 0 (2 ^ 64) m p h is in absent_between 0 (k + 1) m j (omega arith) (omega arith) (l.nothing j more)

pub returns-clause-none : goal.returns-clause-none
returns-clause-none g c m k j h is at_most =
    none_between 0 (k + 1) m j (omega arith) (omega arith) (no_last (between m 0 (k + 1)) is)
