use Rattle.std.proofs.Common.{refl, sym, ◌∙◌}
use Rattle.olc_write.proofs.storing.take_stored.Goals as goal

pub returns-clause-value : goal.returns-clause-value
returns-clause-value g c = rw (sym c.take.ensures.value ∙ c.in-None.is) refl
