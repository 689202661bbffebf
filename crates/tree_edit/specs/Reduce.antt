-- What a removal does to the nodes of a tree.
use Rattle.std.specs.Prelude.{◌≡◌, ◌≢◌, ℕ, ◌-◌, ◌<◌, ◌≤◌, List, [], ◌∷◌, ◌++◌, length, Option, Some, None, ◌⊎◌}
use Rattle.node_base.specs.Form.{few_in, smaller_form}
use Rattle.spec_node.specs.Key.{Begins, next_byte}
use Rattle.node_table.specs.Table.{NodeInfo}
use Rattle.node_table.specs.Shape.{Replaces, AreUnder}

-- a node with one child less
abbrev pub with_one_less : NodeInfo → NodeInfo
with_one_less n = record { edge = n.edge; prefix = n.prefix; form = n.form; count = n.count - 1 }

-- a node in the next smaller form
abbrev pub in_smaller : NodeInfo → NodeInfo
in_smaller n = record {
  edge = n.edge;
  prefix = n.prefix;
  form = smaller_form n.form;
  count = n.count;
}

-- a node other than the root that has some children, but few
pub record MayShrink (n : NodeInfo) : Type 0 where
  pub below_root : n.prefix ≢ []
  pub some : 0 < n.count
  pub few : n.count ≤ few_in n.form

-- a node with one child less, which may be in the next smaller form if it has few children left
abbrev pub IsLessened : NodeInfo → NodeInfo → Type 0
IsLessened n m = (m ≡ with_one_less n) ⊎ (MayShrink (with_one_less n) × (m ≡ in_smaller (with_one_less n)))

-- These nodes are a key's path from these bytes on, and each has a single child: the next node, or for the last one the
-- key's payload.
abbrev pub IsWayAlone : List ℕ → List ℕ → List NodeInfo → Type 0
IsWayAlone key edge [] = length edge ≡ 8
IsWayAlone key edge (n ∷ nodes) = (n.edge ≡ edge) × Begins n.prefix key × (n.count ≡ 1)
    × IsWayAlone key (n.prefix ++ next_byte n.prefix key ∷ []) nodes

-- THE REMOVAL of a key: the last node on its path that has another child, or else the root, has one child less, and the
-- nodes of the path below that one are removed. In the list those are between nodes under smaller bytes of that node
-- and others under greater ones, which needn't be all.
pub record LosesKey (old : List NodeInfo) (key : List ℕ) (new : List NodeInfo) : Type 0 where
  pub node : NodeInfo
  pub begins : Begins node.prefix key
  pub stays : (node.prefix ≡ []) ⊎ (1 < node.count)
  pub less : NodeInfo
  pub lessened : IsLessened node less
  pub gone : List NodeInfo
  pub alone : IsWayAlone key (node.prefix ++ next_byte node.prefix key ∷ []) gone
  pub left : List NodeInfo
  pub right : List NodeInfo
  pub smaller : AreUnder (λ c. c < next_byte node.prefix key) node.prefix left
  pub greater : AreUnder (λ c. next_byte node.prefix key < c) node.prefix right
  pub replaces : Replaces old new (node ∷ (left ++ (gone ++ right))) (less ∷ (left ++ right))

-- a removal that leaves every form unchanged
abbrev pub LosesInPlace : List NodeInfo → List ℕ → List NodeInfo → Type 0
LosesInPlace old key new = (x : LosesKey old key new) × (x.less ≡ with_one_less x.node)

-- NO NODE BUT THE ROOT IS EMPTY: only the root has no prefix
abbrev pub IsFilled : NodeInfo → Type 0
IsFilled n = (n.prefix ≡ []) ⊎ (0 < n.count)

abbrev pub AreFilled : List NodeInfo → Type 0
AreFilled [] = Unit {0}
AreFilled (n ∷ nodes) = IsFilled n × AreFilled nodes

module _ {P : Type 0} where
  -- what a removal does to the nodes, by what it returns
  abbrev pub Reduces : Option P → List NodeInfo → List ℕ → List NodeInfo → Type 0
  Reduces None old key new = new ≡ old
  Reduces (Some before) old key new = LosesKey old key new

  -- what a computation at a present key does to the nodes, by what the closure returns
  abbrev pub Recomputes : Option P → List NodeInfo → List ℕ → List NodeInfo → Type 0
  Recomputes (Some payload) old key new = new ≡ old
  Recomputes None old key new = LosesKey old key new
