use Rattle.share_laws.proofs.Untouched.{finds_it}
use Rattle.share_laws.proofs.laws.a_get_finds_what_was_inserted.Goals as goal

pub returns : goal.returns
returns g c same first between a b key value before found m h leave = finds_it same first between a b key value before found m h leave
