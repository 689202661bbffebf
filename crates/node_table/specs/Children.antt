-- The children that an iterator over a node's children has yet to return.
use Rattle.std.specs.Prelude.{◌≡◌, ℕ, ◌<◌, List, length}
use Rattle.node_base.specs.Rest.{rest}
use Rattle.node_table.specs.inner.Kinds.{mapped}
use Rattle.spec_node.specs.declared.child.Child.{Child as ChildOf}
use Rattle.spec_node.specs.declared.child.Child.TheVariants.{Payload, Node}
use Rattle.spec_node.specs.declared.child.ChildIter.{ChildIter}
use Rattle.spec_node.specs.declared.child.ChildIter.TheVariants.{Payloads, Nodes}

module _ {P C : Type 0} where
  abbrev pub children_left : ChildIter P C → List (ℕ × ChildOf P C)
  children_left (Payloads left) = mapped (λ v. Payload v) (rest left)
  children_left (Nodes left) = mapped (λ c. Node c) (rest left)

  -- payloads come from below seven bytes, and other children from below fewer
  abbrev pub MayYield : List ℕ → ChildIter P C → Type 0
  MayYield p (Payloads left) = length p ≡ 7
  MayYield p (Nodes left) = length p < 7
