-- Codes by which the checker distinguishes nodes' values.
use Rattle.std.specs.Prelude.{ℕ, List, refl}
use Rattle.std.specs.Coded.{Coded, code_by, coded×, coded_ℕ, coded_list}
use Rattle.node_base.specs.NodeView.{NodeView}

abbrev pub node_view_code : {C : Type 0} → Coded C → Coded (NodeView C)
node_view_code {C} code =
    code_by
    (List ℕ × List (ℕ × C))
    (coded× (coded_list coded_ℕ) (coded_list (coded× coded_ℕ code)))
    (λ n. (n.prefix, n.children))
    (λ p. record { prefix = p.0; children = p.1 })
    (λ _. refl)
