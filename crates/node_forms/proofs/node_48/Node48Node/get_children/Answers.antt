use Rattle.std.proofs.Common.{arith, ◌+◌, ◌-◌, ◌∙◌, ap, refl, slice_index}
use Rattle.node_base.specs.inner.Row.{at_place, under}
use Rattle.node_base.proofs.RowLaws.{under-rises, under-between}
use Rattle.node_forms.proofs.node_48.Node48Node.get_children.Goals as goal

pub returns-clause-ascending : goal.returns-clause-ascending
returns-clause-ascending g c = rw (← c.self.view_is) (under-rises (at_place (slice_index c.self.inside.index.value) c.self.inside.children.items) 0 256 256 refl)

pub returns-clause-children : goal.returns-clause-children
returns-clause-children g c =
    ap (λ x. under (at_place (slice_index x) c.deref-2.result.now) c.args.start (c.args.end + 1 - c.args.start)) c.deref.ensures
    ∙ ap (λ x. under (at_place (slice_index c.self.inside.index.value) x) c.args.start (c.args.end + 1 - c.args.start)) c.deref-2.ensures.value
    ∙ rw (← c.self.view_is) (under-between (at_place (slice_index c.self.inside.index.value) c.self.inside.children.items) c.args.start (c.args.end + 1) (omega (arith, c.ranges.end.fits)))
