use Rattle.std.proofs.Common.{subst}
use Rattle.spec_olc.specs.Content.{IsContent}
use Rattle.spec_olc.proofs.laws.what_decides_nothing_leaves_the_content.Goals as goal

pub returns : goal.returns
returns g c = λ m old new id h. subst (IsContent new) h.carries h.content_is
