use Rattle.share_laws.proofs.Untouched.{reply_of_map}
use Rattle.share_laws.proofs.laws.a_reply_is_the_maps.Goals as goal

pub returns : goal.returns
returns g c same k n operation made = reply_of_map same k n operation made
