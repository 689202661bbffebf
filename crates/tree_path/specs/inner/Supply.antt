-- What the nodes of a tree are taken from: a budget, and the count of the nodes that it is charged for.
use Rattle.std.specs.Prelude.{◌≡◌, ℕ, ◌+◌, ◌*◌, ◌<◌, ◌^◌, List, length, Option, Some, refl}
use Rattle.std.specs.Coded.{Coded, code_by, coded×, coded_ℕ}
use Rattle.node_table.specs.Charge.{Charge}
use Rattle.node_table.specs.Shape.{grown_form}
use Rattle.node_table.specs.Table.{NodeTable, NodeInfo, node_at}
use Rattle.spec_node.specs.TableNode.{TableNode}
use Rattle.node_base.specs.declared.base_node.NodeType.{NodeType}
use Rattle.node_base.specs.declared.base_node.NodeType.TheVariants.{N4, N16, N48, N256}
use Rattle.tree_path.specs.Charge.{total, MovesAlike}
use Rattle.tree_path.specs.declared.supply.FormCounts.{FormCounts}

-- how many nodes of a form are counted
abbrev pub count : NodeType → FormCounts → ℕ
count N4 c = c.n4
count N16 c = c.n16
count N48 c = c.n48
count N256 c = c.n256

-- one node of a form more
abbrev pub with_form : NodeType → FormCounts → FormCounts
with_form N4 c = record c { n4 = c.n4 + 1 }
with_form N16 c = record c { n16 = c.n16 + 1 }
with_form N48 c = record c { n48 = c.n48 + 1 }
with_form N256 c = record c { n256 = c.n256 + 1 }

abbrev pub no_forms : FormCounts
no_forms = record { n4 = 0; n16 = 0; n48 = 0; n256 = 0 }

-- 1 for the form itself, and 0 for another
abbrev pub one : NodeType → NodeType → ℕ
one form other = count form (with_form other no_forms)

-- the stated sizes of all nodes that are counted
abbrev pub size_of : FormCounts → ℕ
size_of c = c.n4 * 64 + (c.n16 * 168 + (c.n48 * 672 + c.n256 * 2104))

-- the nodes are those that are counted
abbrev pub IsCounted : FormCounts → List NodeInfo → Type 0
IsCounted forms nodes = (form : NodeType) → count form forms ≡ total (one form) nodes

pub record SupplyView (A : Type 0) : Type 0 where
  pub budget : A
  pub forms : FormCounts

abbrev pub forms_code : Coded FormCounts
forms_code =
    code_by
    (ℕ × (ℕ × (ℕ × ℕ)))
    (coded× coded_ℕ (coded× coded_ℕ (coded× coded_ℕ coded_ℕ)))
    (λ c. (c.n4, (c.n16, (c.n48, c.n256))))
    (λ p. record { n4 = p.0; n16 = p.1.0; n48 = p.1.1.0; n256 = p.1.1.1 })
    (λ _. refl)

abbrev pub supply_code : {A : Type 0} → Coded A → Coded (SupplyView A)
supply_code {A} a =
    code_by
    (A × FormCounts)
    (coded× a forms_code)
    (λ s. (s.budget, s.forms))
    (λ p. record { budget = p.0; forms = p.1 })
    (λ _. refl)

module _ {A : Type 0} (charge : A → Option Charge) where
  -- the charge changes by as much as the counted sizes do
  abbrev pub Alike : SupplyView A → SupplyView A → Type 0
  Alike old new =
      MovesAlike (charge old.budget) (size_of old.forms) (charge new.budget) (size_of new.forms)

  -- one node more is charged and counted
  pub record Charges (old : SupplyView A) (form : NodeType) (new : SupplyView A) : Type 0 where
    pub forms : new.forms ≡ with_form form old.forms
    pub alike : Alike old new

-- one node of the one form is counted in place of one of the other
abbrev pub Trades : FormCounts → NodeType → NodeType → FormCounts → Type 0
Trades old gone come new = with_form gone new ≡ with_form come old

-- no form's count is near its bound
abbrev pub AreFew : FormCounts → Type 0
AreFew forms = (form : NodeType) → count form forms < 2 ^ 60

module _ {P : Type 0} where
  -- the slot's node is counted
  pub record IsCountedAt (s : NodeTable P) (slot : ℕ) (forms : FormCounts) : Type 0 where
    pub node : TableNode P
    pub here : node_at s slot ≡ Some node
    pub counted : 0 < count node.form forms

  -- the slot's node is counted in the form in which it has room for one child more
  abbrev pub CountsGrown : NodeTable P → ℕ → FormCounts → FormCounts → Type 0
  CountsGrown s slot old new =
      (n : TableNode P) → node_at s slot ≡ Some n
      → Trades old n.form (grown_form n.form (length n.children)) new
