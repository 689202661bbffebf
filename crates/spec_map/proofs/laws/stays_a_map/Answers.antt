use Rattle.std.proofs.Common.{◌^◌, arith}
use Rattle.spec_map.proofs.MapLaws.{Rises-put, Rises-without, Rises-between}
use Rattle.spec_map.proofs.laws.stays_a_map.Goals as goal

pub returns-clause-put : goal.returns-clause-put
returns-clause-put g c m k v h wide = Rises-put 0 (2 ^ 64) m k v h (omega arith) wide

pub returns-clause-without : goal.returns-clause-without
returns-clause-without g c m k h = Rises-without 0 (2 ^ 64) m k h

pub returns-clause-between : goal.returns-clause-between
returns-clause-between g c m a b h = Rises-between 0 (2 ^ 64) a b m h
