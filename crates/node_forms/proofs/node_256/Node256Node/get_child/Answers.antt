use Rattle.std.proofs.Common.{◌∙◌, sym, refl}
use Rattle.node_base.specs.inner.Places.{in_cell}
use Rattle.node_base.proofs.RowLaws.{under-rises}
use Rattle.node_forms.proofs.CellLaws.{cell-lookup, cell-full}
use Rattle.node_forms.proofs.node_256.Node256Node.get_child.Goals as goal

pub get_filled-requires : goal.get_filled-requires
get_filled-requires g c = cell-full c.self.inside.places c.args.byte c.ranges.byte.fits (c.self.invariant.0 ∙ sym c.value_count.ensures ∙ c.if-value_count-eq256.true)

pub returns-then-value_count-eq256-clause-found : goal.returns-then-value_count-eq256-clause-found
returns-then-value_count-eq256-clause-found g c = rw (← c.self.view_is) (sym (cell-lookup c.self.inside.places c.args.byte c.ranges.byte.fits ∙ c.get_filled.ensures))

pub returns-then-value_count-eq256-clause-ascending : goal.returns-then-value_count-eq256-clause-ascending
returns-then-value_count-eq256-clause-ascending g c = rw (← c.self.view_is) (under-rises (in_cell c.self.inside.places) 0 256 256 refl)

pub returns-else-value_count-eq256-clause-found : goal.returns-else-value_count-eq256-clause-found
returns-else-value_count-eq256-clause-found g c = rw (← c.self.view_is) (c.get.ensures ∙ sym (cell-lookup c.self.inside.places c.args.byte c.ranges.byte.fits))

pub returns-else-value_count-eq256-clause-ascending : goal.returns-else-value_count-eq256-clause-ascending
returns-else-value_count-eq256-clause-ascending g c = rw (← c.self.view_is) (under-rises (in_cell c.self.inside.places) 0 256 256 refl)
