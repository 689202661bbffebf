use Rattle.std.proofs.Common.{arith, ◌∙◌, sym, refl}
use Rattle.node_forms.proofs.CellLaws.{cell-lookup, cells-without, cells-fewer}
use Rattle.node_forms.proofs.node_256.Node256Node.take.Goals as goal

pub returns-in_default-clause-before : goal.returns-in_default-clause-before
returns-in_default-clause-before g c = rw (← c.self.view_is) (sym (cell-lookup c.self.inside.places c.args.byte c.ranges.byte.fits ∙ sym c.take.ensures.before ∙ c.in_default.is))

pub returns-in_default-clause-children : goal.returns-in_default-clause-children
returns-in_default-clause-children g c = rw (← c.self.view_is) (cells-without c.self.inside.places c.take.new.self c.args.byte c.ranges.byte.fits c.take.ensures.others c.take.ensures.here)

pub count_down-requires : goal.count_down-requires
count_down-requires g c =
    let fewer = cells-fewer c.self.inside.places c.take.new.self c.args.byte c.ranges.byte.fits c.take.ensures.others c.take.ensures.here (rw (← c.take.ensures.before, c.in-Some.is) refl) in
    omega (arith, fewer, c.self.invariant.0)

pub invariant_of-self-2 : goal.invariant_of-self-2
invariant_of-self-2 g c =
    let fewer = cells-fewer c.self.inside.places c.take.new.self c.args.byte c.ranges.byte.fits c.take.ensures.others c.take.ensures.here (rw (← c.take.ensures.before, c.in-Some.is) refl) in
    (omega (arith, fewer, c.self.invariant.0, c.count_down.ensures.count), c.count_down.ensures.form ∙ c.self.invariant.1)

pub returns-clause-before : goal.returns-clause-before
returns-clause-before g c = rw (← c.self.view_is) (sym (cell-lookup c.self.inside.places c.args.byte c.ranges.byte.fits ∙ sym c.take.ensures.before ∙ c.in-Some.is))

pub returns-clause-children : goal.returns-clause-children
returns-clause-children g c = rw (← c.self.view_is) (cells-without c.self.inside.places c.take.new.self c.args.byte c.ranges.byte.fits c.take.ensures.others c.take.ensures.here)
