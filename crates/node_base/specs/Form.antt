-- How many children a form has room for, its place among the forms, and its stated size.
use Rattle.std.specs.Prelude.{ℕ, ◌≤◌, Option, Some, None}
use Rattle.node_base.specs.declared.base_node.NodeType.{NodeType}
use Rattle.node_base.specs.declared.base_node.NodeType.TheVariants.{N4, N16, N48, N256}

-- the largest form is never full
abbrev pub limit : NodeType → Option ℕ
limit N4 = Some 4
limit N16 = Some 16
limit N48 = Some 48
limit N256 = None

-- this many children fit below the limit
abbrev pub Within : Option ℕ → ℕ → Type 0
Within None n = Unit {0}
Within (Some most) n = n ≤ most

-- this many children fit into a node of this form
abbrev pub Fits : NodeType → ℕ → Type 0
Fits form n = Within (limit form) n

-- the forms in the order of their sizes
abbrev pub form_place : NodeType → ℕ
form_place N4 = 0
form_place N16 = 1
form_place N48 = 2
form_place N256 = 3

-- the form that a full node grows into
abbrev pub next_form : NodeType → NodeType
next_form N4 = N16
next_form N16 = N48
next_form N48 = N256
next_form N256 = N256

-- the form that a node goes into where few children are left
abbrev pub smaller_form : NodeType → NodeType
smaller_form N4 = N4
smaller_form N16 = N4
smaller_form N48 = N16
smaller_form N256 = N48

-- with so many children at most, a node of this form has few
abbrev pub few_in : NodeType → ℕ
few_in N4 = 0
few_in N16 = 3
few_in N48 = 12
few_in N256 = 36

-- what a budget is charged for a node of this form, in bytes
abbrev pub stated_size : NodeType → ℕ
stated_size N4 = 64
stated_size N16 = 168
stated_size N48 = 672
stated_size N256 = 2104
