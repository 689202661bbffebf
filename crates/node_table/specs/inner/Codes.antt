-- Codes by which the checker distinguishes forms, children and nodes as values that contracts see.
use Rattle.std.specs.Prelude.{◌≡◌, ℕ, zero, suc, ◌⊎◌, List, refl}
use Rattle.std.proofs.Common.{inl, inr}
use Rattle.std.specs.Coded.{Coded, code_by, coded×, coded⊎, coded_ℕ, coded_list}
use Rattle.node_base.specs.Form.{form_place}
use Rattle.node_base.specs.declared.base_node.NodeType.{NodeType}
use Rattle.node_base.specs.declared.base_node.NodeType.TheVariants.{N4, N16, N48, N256}
use Rattle.spec_node.specs.TableNode.{TableNodeOf, TableNode}
use Rattle.spec_node.specs.declared.child.Child.{Child as ChildOf}
use Rattle.spec_node.specs.declared.child.Child.TheVariants.{Payload, Node}

abbrev pub form_in_place : ℕ → NodeType
form_in_place zero = N4
form_in_place (suc zero) = N16
form_in_place (suc (suc zero)) = N48
form_in_place (suc (suc (suc n))) = N256

pub form_has_place : (f : NodeType) → form_in_place (form_place f) ≡ f
form_has_place N4 = refl
form_has_place N16 = refl
form_has_place N48 = refl
form_has_place N256 = refl

abbrev pub form_code : Coded NodeType
form_code = code_by ℕ coded_ℕ form_place form_in_place form_has_place

module _ {P C : Type 0} where
  abbrev pub child_part : ChildOf P C → P ⊎ C
  child_part (Payload v) = inl v
  child_part (Node c) = inr c

  abbrev pub child_of_part : P ⊎ C → ChildOf P C
  child_of_part (inl v) = Payload v
  child_of_part (inr c) = Node c

  pub child_has_part : (c : ChildOf P C) → child_of_part (child_part c) ≡ c
  child_has_part (Payload v) = refl
  child_has_part (Node c) = refl

  abbrev pub child_code : Coded P → Coded C → Coded (ChildOf P C)
  child_code payload place =
      code_by (P ⊎ C) (coded⊎ payload place) child_part child_of_part child_has_part

abbrev pub table_node_of_code : {P C : Type 0} → Coded P → Coded C → Coded (TableNodeOf P C)
table_node_of_code {P} {C} payload place =
    let child : Coded (ChildOf P C) = child_code payload place in
    code_by
    (NodeType × (List ℕ × List (ℕ × ChildOf P C)))
    (coded× form_code (coded× (coded_list coded_ℕ) (coded_list (coded× coded_ℕ child))))
    (λ n. (n.form, (n.prefix, n.children)))
    (λ p. record { form = p.0; prefix = p.1.0; children = p.1.1 })
    (λ _. refl)

abbrev pub table_node_code : {P : Type 0} → Coded P → Coded (TableNode P)
table_node_code code = table_node_of_code code coded_ℕ
