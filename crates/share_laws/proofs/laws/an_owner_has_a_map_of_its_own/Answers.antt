use Rattle.std.proofs.Common.{[]}
use Rattle.share_laws.proofs.Owned.{own_run}
use Rattle.share_laws.proofs.laws.an_owner_has_a_map_of_its_own.Goals as goal

pub returns : goal.returns
returns g c same owner low high entries m legal owns = own_run same low high owner [] m entries (0, tt) legal owns
