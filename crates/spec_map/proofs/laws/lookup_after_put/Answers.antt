use Rattle.spec_map.proofs.MapLaws.{lookup-put_same, lookup-put_other}
use Rattle.spec_map.proofs.laws.lookup_after_put.Goals as goal

pub returns-clause-same : goal.returns-clause-same
returns-clause-same g c m k v = lookup-put_same m k v

pub returns-clause-other : goal.returns-clause-other
returns-clause-other g c m k j v other = lookup-put_other m k v j other
