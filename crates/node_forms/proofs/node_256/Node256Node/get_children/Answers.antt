use Rattle.std.proofs.Common.{arith, ◌+◌, refl}
use Rattle.node_base.specs.inner.Places.{in_cell}
use Rattle.node_base.proofs.RowLaws.{under-rises, under-between}
use Rattle.node_forms.proofs.node_256.Node256Node.get_children.Goals as goal

pub returns-clause-ascending : goal.returns-clause-ascending
returns-clause-ascending g c = rw (← c.self.view_is) (under-rises (in_cell c.self.inside.places) 0 256 256 refl)

pub returns-clause-children : goal.returns-clause-children
returns-clause-children g c = rw (← c.self.view_is) (under-between (in_cell c.self.inside.places) c.args.start (c.args.end + 1) (omega (arith, c.ranges.end.fits)))
