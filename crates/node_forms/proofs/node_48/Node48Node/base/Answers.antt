use Rattle.std.proofs.Common.{refl, slice_index}
use Rattle.node_base.specs.inner.Row.{at_place}
use Rattle.node_base.proofs.RowLaws.{under-rises}
use Rattle.node_forms.proofs.node_48.Node48Node.base.Goals as goal

pub returns-clause-ascending : goal.returns-clause-ascending
returns-clause-ascending g c = rw (← c.self.view_is) (under-rises (at_place (slice_index c.self.inside.index.value) c.self.inside.children.items) 0 256 256 refl)
