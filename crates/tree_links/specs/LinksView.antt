-- What a contract sees of a table of links.
use Rattle.std.specs.Prelude.{ℕ, List, Option, refl}
use Rattle.std.specs.Coded.{Coded, code_by, coded×, coded_ℕ, coded_list, coded_option}
use Rattle.spec_node.specs.TableNode.{TableNode}
use Rattle.node_table.specs.Table.{NodeTable}
use Rattle.node_table.specs.inner.Codes.{table_node_code}

-- the table of nodes that it is seen as, and how many nodes or pairs can be added without memory
pub record LinksView (P : Type 0) : Type 0 where
  pub table : NodeTable P
  pub free : ℕ

abbrev pub links_code : {P : Type 0} → Coded P → Coded (LinksView P)
links_code {P} code =
    code_by
    (List (Option (TableNode P)) × ℕ)
    (coded× (coded_list (coded_option (table_node_code code))) coded_ℕ)
    (λ v. (v.table, v.free))
    (λ p. record { table = p.0; free = p.1 })
    (λ _. refl)
