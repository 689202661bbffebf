-- What an insertion does to the nodes of a tree.
use Rattle.std.specs.Prelude.{◌≡◌, ℕ, ◌+◌, ◌<◌, List, [], ◌∷◌, ◌++◌, length, take, Option, Some, None, slice_index_or, if◌then◌else◌, nat_lt, ◌⊎◌}
use Rattle.spec_node.specs.Key.{Begins, IsFirstDifference, next_byte}
use Rattle.node_table.specs.Table.{NodeInfo}
use Rattle.node_base.specs.declared.base_node.NodeType.{NodeType}
use Rattle.node_base.specs.declared.base_node.NodeType.TheVariants.{N4, N16, N48, N256}

-- the form in which a node with so many children takes one more: its own, or the next where it is full
abbrev pub grown_form : NodeType → ℕ → NodeType
grown_form N4 count = if nat_lt count 4 then N4 else N16
grown_form N16 count = if nat_lt count 16 then N16 else N48
grown_form N48 count = if nat_lt count 48 then N48 else N256
grown_form N256 count = N256

-- a node with one child more
abbrev pub with_one_more : NodeInfo → NodeInfo
with_one_more n = record {
  edge = n.edge;
  prefix = n.prefix;
  form = grown_form n.form n.count;
  count = n.count + 1;
}

-- the leaf that is made for a key, to which these bytes lead
abbrev pub new_leaf : List ℕ → List ℕ → NodeInfo
new_leaf edge key = record { edge = edge; prefix = take 7 key; form = N4; count = 1 }

-- Some nodes in a row are replaced by others, and all before and after them stay.
pub record Replaces (old new gone come : List NodeInfo) : Type 0 where
  pub before : List NodeInfo
  pub after : List NodeInfo
  pub was : old ≡ before ++ (gone ++ after)
  pub is : new ≡ before ++ (come ++ after)

-- a byte that passes leads to the node, after these bytes
pub record IsUnder (Passes : ℕ → Type 0) (p : List ℕ) (n : NodeInfo) : Type 0 where
  pub byte : ℕ
  pub passes : Passes byte
  pub begins : Begins (p ++ byte ∷ []) n.edge

abbrev pub AreUnder : (ℕ → Type 0) → List ℕ → List NodeInfo → Type 0
AreUnder Passes p [] = Unit {0}
AreUnder Passes p (n ∷ nodes) = IsUnder Passes p n × AreUnder Passes p nodes

-- these bytes lead to each of the nodes, and perhaps more
abbrev pub AllBegin : List ℕ → List NodeInfo → Type 0
AllBegin q [] = Unit {0}
AllBegin q (n ∷ nodes) = Begins q n.edge × AllBegin q nodes

-- The key's leaf has one payload more.
pub record FillsLeaf (old : List NodeInfo) (key : List ℕ) (new : List NodeInfo) : Type 0 where
  pub leaf : NodeInfo
  pub prefix : leaf.prefix ≡ take 7 key
  pub replaces : Replaces old new (leaf ∷ []) (with_one_more leaf ∷ [])

-- An inner node has one child more, a new leaf. In the list it comes between nodes below that node under smaller bytes
-- and others under greater ones, which needn't be all.
pub record AddsLeaf (old : List NodeInfo) (key : List ℕ) (new : List NodeInfo) : Type 0 where
  pub node : NodeInfo
  pub begins : Begins node.prefix key
  pub inner : length node.prefix < 7
  pub left : List NodeInfo
  pub right : List NodeInfo
  pub smaller : AreUnder (λ c. c < next_byte node.prefix key) node.prefix left
  pub greater : AreUnder (λ c. next_byte node.prefix key < c) node.prefix right
  pub replaces : Replaces old new (node ∷ (left ++ right))
      (with_one_more node
      ∷ (left ++ new_leaf (node.prefix ++ next_byte node.prefix key ∷ []) key ∷ right))

-- the two children of a split, in the order of their bytes
abbrev pub in_order : ℕ → List NodeInfo → ℕ → List NodeInfo → List NodeInfo
in_order a xs b ys = if nat_lt a b then xs ++ ys else ys ++ xs

-- A node of two children takes the place of one whose prefix the key leaves: that node, with nodes below it, which
-- needn't be all, and a new leaf.
pub record SplitsNode (old : List NodeInfo) (key : List ℕ) (new : List NodeInfo) : Type 0 where
  pub node : NodeInfo
  pub below : List NodeInfo
  pub at : ℕ
  pub begins : Begins node.edge key
  pub differs : IsFirstDifference node.prefix key at
  pub all_below : AllBegin node.prefix below
  pub replaces : Replaces old new (node ∷ below)
      ((record { edge = node.edge; prefix = take at key; form = N4; count = 2 })
      ∷ in_order
      (slice_index_or node.prefix at 0)
      ((record {
        edge = take at key ++ slice_index_or node.prefix at 0 ∷ [];
        prefix = node.prefix;
        form = node.form;
        count = node.count;
      }) ∷ below)
      (slice_index_or key at 0)
      (new_leaf (take at key ++ slice_index_or key at 0 ∷ []) key ∷ []))

-- what an insertion does to the nodes, by the key's previous value
abbrev pub Reshapes : {P : Type 0} → Option P → List NodeInfo → List ℕ → List NodeInfo → Type 0
Reshapes (Some before) old key new = new ≡ old
Reshapes None old key new = FillsLeaf old key new ⊎ (AddsLeaf old key new ⊎ SplitsNode old key new)
