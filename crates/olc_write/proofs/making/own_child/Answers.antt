use Rattle.std.proofs.Common.{refl}
use Rattle.olc_write.proofs.making.own_child.Goals as goal

pub returns-in-Some-share_stored : goal.returns-in-Some-share_stored
returns-in-Some-share_stored g c = rw c.in-None.is (g.P.HasMeaning.meaning c.in-Some-share_stored.share, refl, c.in-Some-share_stored.ensures)
