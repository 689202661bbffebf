use Rattle.std.proofs.Common.{arith, ◌∙◌, ◌+◌, sym, ap}
use Rattle.node_forms.proofs.CellLaws.{cell-lookup, cells-room, cells-put, cells-more}
use Rattle.node_forms.proofs.node_256.Node256Node.insert.Goals as goal

pub put-requires : goal.put-requires
put-requires g c = sym (cell-lookup c.self.inside.places c.args.byte c.ranges.byte.fits) ∙ rw (← c.self.view_is) at c.requires.absent

pub count_up-requires : goal.count_up-requires
count_up-requires g c =
    let none = sym (cell-lookup c.self.inside.places c.args.byte c.ranges.byte.fits) ∙ rw (← c.self.view_is) at c.requires.absent in
    omega (arith, cells-room c.self.inside.places c.args.byte c.ranges.byte.fits none, c.self.invariant.0)

pub invariant_of-self : goal.invariant_of-self
invariant_of-self g c =
    let none = sym (cell-lookup c.self.inside.places c.args.byte c.ranges.byte.fits) ∙ rw (← c.self.view_is) at c.requires.absent in
    let more = cells-more c.self.inside.places c.put.new.self c.args.byte c.ranges.byte.fits c.put.ensures.others c.args.child c.put.ensures.here none in
    rw c.count_up.ensures (more ∙ ap (λ n. n + 1) c.self.invariant.0, c.self.invariant.1)

pub returns-clause-children : goal.returns-clause-children
returns-clause-children g c = rw (← c.self.view_is) (cells-put c.self.inside.places c.put.new.self c.args.byte c.ranges.byte.fits c.put.ensures.others c.args.child c.put.ensures.here)
