-- What is charged to a map's limit.
use Rattle.std.specs.Prelude.{ℕ, Option, Some}
use Rattle.node_table.specs.Charge.{Charge, BudgetView, budget_charge}

-- a limit of so many bytes, none of them charged
abbrev pub limit_of : ℕ → BudgetView
limit_of bytes = record { left = bytes; charged = 0 }

-- what is charged to a limit: a count is kept
abbrev pub limit_charge : BudgetView → Option Charge
limit_charge limit = Some (budget_charge limit)
