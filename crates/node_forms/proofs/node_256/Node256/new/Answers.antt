use Rattle.std.proofs.Common.{rules, ◌≡◌, ◌∙◌, length, ap, sym}
use Rattle.node_base.specs.inner.Places.{in_cells}
use Rattle.node_forms.proofs.CellLaws.{cells-none}
use Rattle.node_forms.proofs.node_256.Node256.new.Goals as goal

pub invariant_of-result : goal.invariant_of-result
invariant_of-result g c =
    let none : c.new-base.result.count ≡ 0 = search rules in
    (ap (λ x. length (in_cells x)) c.in_ok-places.ensures ∙ ap length (cells-none {C = g.row.C.Denot} 256) ∙ sym none, search rules)

pub returns-clause-empty : goal.returns-clause-empty
returns-clause-empty g c = ap in_cells c.in_ok-places.ensures ∙ cells-none 256
