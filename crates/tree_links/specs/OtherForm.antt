-- A node goes into its next form, or into its smaller one, and nothing else changes.
use Rattle.std.specs.Prelude.{◌≡◌, ◌≢◌, ℕ, ◌+◌, length, Some}
use Rattle.node_base.specs.Form.{Fits, next_form, smaller_form}
use Rattle.spec_node.specs.TableNode.{TableNode}
use Rattle.node_table.specs.Table.{NodeTable, node_at}

module _ {P : Type 0} where
  pub record GrowsNode (s t : NodeTable P) (i : ℕ) : Type 0 where
    pub node : TableNode P
    pub here : node_at s i ≡ Some node
    pub there : node_at t i ≡ Some (record node { form = next_form node.form })
    pub room : Fits (next_form node.form) (length node.children + 1)
    pub others : (o : ℕ) → o ≢ i → node_at t o ≡ node_at s o

  -- there is a node that fits into its smaller form
  pub record HasFewAt (s : NodeTable P) (i : ℕ) : Type 0 where
    pub node : TableNode P
    pub here : node_at s i ≡ Some node
    pub few : Fits (smaller_form node.form) (length node.children)

  pub record ShrinksNode (s t : NodeTable P) (i : ℕ) : Type 0 where
    pub node : TableNode P
    pub here : node_at s i ≡ Some node
    pub there : node_at t i ≡ Some (record node { form = smaller_form node.form })
    pub others : (o : ℕ) → o ≢ i → node_at t o ≡ node_at s o
