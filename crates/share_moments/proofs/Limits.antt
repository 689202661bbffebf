-- The limit of a shard's map.
use Rattle.std.proofs.Common.{◌≡◌, ℕ, ◌+◌, ◌≤◌, ap, sym, arith}
use Rattle.std.specs.Prelude.{Option, Some, None}
use Rattle.node_table.specs.Charge.{BudgetView, Charge, Covers, budget_charge}
use Rattle.share_moments.specs.declared.state.State.{State}
use Rattle.tree_edit.specs.Tree.{ChargesForNodes, TreeView}
use Rattle.tree_edit.specs.TreeCalls.{IsChargeOf, IsNew}
use Rattle.tree_path.specs.Charge.{charge_of}

abbrev pub limit_of : State → ℕ
limit_of s = (budget_charge s.map.budget).limit

abbrev limit_in : Option Charge → ℕ
limit_in None = 0
limit_in (Some c) = c.limit

-- a call that charges for nodes keeps it
pub same_limit : (old new : TreeView ℕ BudgetView) → ChargesForNodes (λ b. Some (budget_charge b)) old new → (budget_charge new.budget).limit ≡ (budget_charge old.budget).limit
same_limit old new moves = ap limit_in (sym moves)

-- what is charged is within it
pub within : (tree : TreeView ℕ BudgetView) (bytes : ℕ) → Covers (Some (budget_charge tree.budget)) (charge_of tree.nodes) → IsChargeOf tree bytes → bytes ≤ (budget_charge tree.budget).limit
within tree bytes covers is = let same = is.sizes in omega (arith, covers, same)

-- a new map has the limit that its budget was made with
pub new_limit : (limit : ℕ) (budget : BudgetView) (tree : TreeView ℕ BudgetView) → budget ≡ record { left = limit; charged = 0 } → IsNew (λ b. Some (budget_charge b)) budget tree → (budget_charge tree.budget).limit ≡ limit
new_limit limit budget tree is new =
    let made : (budget_charge tree.budget).limit ≡ budget.left + budget.charged = ap limit_in new.charged in
    let left = ap (λ (b : BudgetView). b.left) is in let none = ap (λ (b : BudgetView). b.charged) is in
    omega (arith, made, left, none)
