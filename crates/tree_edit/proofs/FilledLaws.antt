-- After each change of a tree's nodes, no node but the root is empty, if none was before.
use Rattle.std.proofs.Common.{◌≡◌, ℕ, zero, suc, ◌-◌, ◌<◌, List, [], ◌∷◌, ◌++◌, length, get_or, take, Some, ◌⊎◌, inl, inr, refl, ap, sym, subst, ◌∙◌, arith}
use Rattle.std.proofs.lemmas.Bool.{lt-ltb, le-ltb, cases_order}
use Rattle.node_base.specs.declared.base_node.NodeType.TheVariants.{N256}
use Rattle.spec_node.specs.Key.{Begins, next_byte}
use Rattle.spec_node.specs.TableNode.{TableNode, Child}
use Rattle.node_table.specs.Table.{NodeTable, NodeInfo, node_info, pairs_of, pairs_at, nodes_of, nodes_at, AreChildren, IsTree}
use Rattle.node_table.specs.Shape.{Replaces, FillsLeaf, AddsLeaf, SplitsNode, with_one_more, new_leaf, in_order}
use Rattle.spec_node.specs.declared.child.Child.TheVariants.{Payload, Node}
use Rattle.node_table.proofs.BeginLaws.{after}
use Rattle.tree_path.specs.Charge.{charge_of}
use Rattle.tree_path.specs.inner.Root.{depth, HasRoot}
use Rattle.tree_edit.specs.Reduce.{with_one_less, in_smaller, MayShrink, LosesKey, IsFilled, AreFilled}

pub filled_append : (xs ys : List NodeInfo) → AreFilled xs → AreFilled ys → AreFilled (xs ++ ys)
filled_append [] ys h k = k
filled_append (x ∷ xs) ys h k = (h.0, filled_append xs ys h.1 k)

pub filled_left : (xs ys : List NodeInfo) → AreFilled (xs ++ ys) → AreFilled xs
filled_left [] ys h = tt
filled_left (x ∷ xs) ys h = (h.0, filled_left xs ys h.1)

pub filled_right : (xs ys : List NodeInfo) → AreFilled (xs ++ ys) → AreFilled ys
filled_right [] ys h = h
filled_right (x ∷ xs) ys h = filled_right xs ys h.1

-- a change of a part of a list
replaced : (old new gone come : List NodeInfo) → Replaces old new gone come → AreFilled old → (AreFilled gone → AreFilled come) → AreFilled new
replaced old new gone come r h then =
    let was : AreFilled (r.before ++ (gone ++ r.after)) = subst AreFilled r.was h in
    let rest : AreFilled (gone ++ r.after) = filled_right r.before (gone ++ r.after) was in
    subst AreFilled (sym r.is)
    (filled_append r.before (come ++ r.after) (filled_left r.before (gone ++ r.after) was)
    (filled_append come r.after (then (filled_left gone r.after rest)) (filled_right gone r.after rest)))

pub fills : (old : List NodeInfo) (key : List ℕ) (new : List NodeInfo) → FillsLeaf old key new → AreFilled old → AreFilled new
fills old key new x h = replaced old new (x.leaf ∷ []) (with_one_more x.leaf ∷ []) x.replaces h (λ g. (inr (omega arith), tt))

pub adds : (old : List NodeInfo) (key : List ℕ) (new : List NodeInfo) → AddsLeaf old key new → AreFilled old → AreFilled new
adds old key new x h =
    let leaf = new_leaf (x.node.prefix ++ next_byte x.node.prefix key ∷ []) key in
    replaced old new (x.node ∷ (x.left ++ x.right)) (with_one_more x.node ∷ (x.left ++ leaf ∷ x.right)) x.replaces h
    (λ g. (inr (omega arith), filled_append x.left (leaf ∷ x.right) (filled_left x.left x.right g.1) (inr (omega arith), filled_right x.left x.right g.1)))

in_order_filled : (a b : ℕ) (xs ys : List NodeInfo) → AreFilled xs → AreFilled ys → AreFilled (in_order a xs b ys)
in_order_filled a b xs ys h k =
    elim (cases_order a b) [
      | inl same ↦ rw (le-ltb a b (omega (arith, same))) (filled_append ys xs k h)
      | inr (inl less) ↦ rw (lt-ltb a b less) (filled_append xs ys h k)
      | inr (inr more) ↦ rw (le-ltb a b (omega (arith, more))) (filled_append ys xs k h)
    ]

pub splits : (old : List NodeInfo) (key : List ℕ) (new : List NodeInfo) → SplitsNode old key new → AreFilled old → AreFilled new
splits old key new x h =
    let lower : NodeInfo = record { edge = take x.at key ++ get_or x.node.prefix x.at 0 ∷ []; prefix = x.node.prefix; form = x.node.form; count = x.node.count } in
    let leaf = new_leaf (take x.at key ++ get_or key x.at 0 ∷ []) key in
    replaced old new (x.node ∷ x.below) _ x.replaces h
    (λ g. (inr (omega arith), in_order_filled (get_or x.node.prefix x.at 0) (get_or key x.at 0) (lower ∷ x.below) (leaf ∷ []) (g.0, g.1) (inr (omega arith), tt)))

lessened_filled : (n m : NodeInfo) → (n.prefix ≡ []) ⊎ (1 < n.count) → (m ≡ with_one_less n) ⊎ (MayShrink (with_one_less n) × (m ≡ in_smaller (with_one_less n))) → IsFilled m
lessened_filled n m stays less =
    elim less [
      | inl is ↦ subst IsFilled (sym is) (elim stays as (λ z. (n.prefix ≡ []) ⊎ (0 < n.count - 1)) [ inl root ↦ inl root | inr more ↦ inr (omega (arith, more)) ])
      | inr small ↦ subst IsFilled (sym small.1) (inr small.0.some)
    ]

pub loses : (old : List NodeInfo) (key : List ℕ) (new : List NodeInfo) → LosesKey old key new → AreFilled old → AreFilled new
loses old key new x h =
    replaced old new (x.node ∷ (x.left ++ (x.gone ++ x.right))) (x.less ∷ (x.left ++ x.right)) x.replaces h
    (λ g. (
      lessened_filled x.node x.less x.stays x.lessened,
      filled_append x.left x.right (filled_left x.left (x.gone ++ x.right) g.1) (filled_right x.gone x.right (filled_right x.left (x.gone ++ x.right) g.1)),
    ))

-- a new key
pub reshapes : (old : List NodeInfo) (key : List ℕ) (new : List NodeInfo) → FillsLeaf old key new ⊎ (AddsLeaf old key new ⊎ SplitsNode old key new) → AreFilled old → AreFilled new
reshapes old key new shape h =
    elim shape [
      | inl x ↦ fills old key new x h
      | inr (inl x) ↦ adds old key new x h
      | inr (inr x) ↦ splits old key new x h
    ]

-- AN EMPTY MAP has the root alone: below any other node that isn't empty there is a pair.
module _ {P : Type 0} (s : NodeTable P) where
  -- some pair
  pub record HasSome (xs : List (ℕ × P)) : Type 0 where
    pub first : ℕ × P
    pub rest : List (ℕ × P)
    pub is : xs ≡ first ∷ rest

  some_before : (xs ys : List (ℕ × P)) → HasSome xs → HasSome (xs ++ ys)
  some_before xs ys h = record { first = h.first; rest = h.rest ++ ys; is = ap (λ z. z ++ ys) h.is }

  children_filled : (levels : ℕ) → ((q : List ℕ) (slot : ℕ) → IsTree s levels q slot → (q ≡ [] → ⊥) → AreFilled (nodes_at s levels q slot) → HasSome (pairs_at s levels slot))
      → (p : List ℕ) (es : List (ℕ × Child P)) → AreChildren (λ r j. IsTree s levels r j) p es → AreFilled (nodes_of (λ e j. nodes_at s levels e j) p es) → (es ≡ [] → ⊥)
      → HasSome (pairs_of (λ j. pairs_at s levels j) p es)
  children_filled levels ih p [] h f some = absurd (some refl)
  children_filled levels ih p ((b, Payload v) ∷ es) h f some = record { first = _; rest = _; is = refl }
  children_filled levels ih p ((b, Node j) ∷ es) h f some =
      some_before (pairs_at s levels j) (pairs_of (λ i. pairs_at s levels i) p es)
      (ih (p ++ b ∷ []) j h.0 (snoc_some p b) (filled_left (nodes_at s levels (p ++ b ∷ []) j) (nodes_of (λ e i. nodes_at s levels e i) p es) f))
    where
      snoc_some : (p : List ℕ) (b : ℕ) → p ++ b ∷ [] ≡ [] → ⊥
      snoc_some [] b e = cc
      snoc_some (x ∷ p) b e = cc

  begins_some : (q p : List ℕ) → Begins q p → (q ≡ [] → ⊥) → p ≡ [] → ⊥
  begins_some [] p h some e = some refl
  begins_some (b ∷ q) p h some e = let x = after h in let no : b ∷ (q ++ x.rest) ≡ [] = sym x.is ∙ e in cc

  no_children : (n : TableNode P) → n.children ≡ [] → length n.children ≡ 0
  no_children n e = ap length e

  pub filled_pairs : (levels : ℕ) (q : List ℕ) (slot : ℕ) → IsTree s levels q slot → (q ≡ [] → ⊥) → AreFilled (nodes_at s levels q slot) → HasSome (pairs_at s levels slot)
  filled_pairs zero q slot h below f = absurd h
  filled_pairs (suc levels) q slot h below f =
      let n = h.node in
      let g : AreFilled (node_info q n ∷ nodes_of (λ e j. nodes_at s levels e j) n.prefix n.children) = rw h.here at f in
      let some : n.children ≡ [] → ⊥ = λ e. elim g.0 as (λ z. ⊥) [ inl none ↦ begins_some q n.prefix h.begins below none | inr more ↦ let zero_is : length n.children ≡ 0 = no_children n e in omega (arith, more, zero_is) ] in
      rw h.here (children_filled levels (filled_pairs levels) n.prefix n.children h.children g.1 some)

  -- without pairs the root has no children, so it is the only node
  pub empty_alone : (levels : ℕ) (root : ℕ) → (h : IsTree s (suc levels) [] root) → AreFilled (nodes_at s (suc levels) [] root) → pairs_at s (suc levels) root ≡ [] → nodes_at s (suc levels) [] root ≡ node_info [] h.node ∷ []
  empty_alone levels root h f none =
      let n = h.node in
      let g : AreFilled (node_info [] n ∷ nodes_of (λ e j. nodes_at s levels e j) n.prefix n.children) = rw h.here at f in
      let empty : pairs_of (λ j. pairs_at s levels j) n.prefix n.children ≡ [] = rw h.here at none in
      rw h.here (ap (λ xs. node_info [] n ∷ xs) (childless n.prefix n.children h.children g.1 empty))
    where
      childless : (p : List ℕ) (es : List (ℕ × Child P)) → AreChildren (λ r j. IsTree s levels r j) p es → AreFilled (nodes_of (λ e j. nodes_at s levels e j) p es) → pairs_of (λ j. pairs_at s levels j) p es ≡ [] → nodes_of (λ e j. nodes_at s levels e j) p es ≡ []
      childless p [] a f e = refl
      childless p (x ∷ es) a f e =
          let some = children_filled levels (filled_pairs levels) p (x ∷ es) a f (λ z. cc) in
          let no : some.first ∷ some.rest ≡ [] = sym some.is ∙ e in absurd (cc)

  -- so the root's size is all that is charged
  pub bare : (root : ℕ) → IsTree s depth [] root → HasRoot s root → AreFilled (nodes_at s depth [] root) → pairs_at s depth root ≡ [] → charge_of (nodes_at s depth [] root) ≡ 2104
  unfolding depth
  bare root h r f none =
      let both : Some h.node ≡ Some r.node = sym h.here ∙ r.here in
      let same : h.node ≡ r.node = cc in
      let form : h.node.form ≡ N256 = ap (λ (n : TableNode P). n.form) same ∙ r.form in
      ap charge_of (empty_alone 7 root h f none) ∙ rw form refl
