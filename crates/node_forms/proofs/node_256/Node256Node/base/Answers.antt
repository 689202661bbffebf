use Rattle.std.proofs.Common.{refl}
use Rattle.node_base.specs.inner.Places.{in_cell}
use Rattle.node_base.proofs.RowLaws.{under-rises}
use Rattle.node_forms.proofs.node_256.Node256Node.base.Goals as goal

pub returns-clause-ascending : goal.returns-clause-ascending
returns-clause-ascending g c = rw (← c.self.view_is) (under-rises (in_cell c.self.inside.places) 0 256 256 refl)
