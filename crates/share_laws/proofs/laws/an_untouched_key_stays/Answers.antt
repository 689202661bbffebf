use Rattle.share_laws.proofs.Untouched.{stays}
use Rattle.share_laws.proofs.laws.an_untouched_key_stays.Goals as goal

pub returns : goal.returns
returns g c same m n key entries legal leave = stays key same m n entries legal leave
