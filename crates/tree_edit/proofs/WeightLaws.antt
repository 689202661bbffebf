-- Sums over the nodes of a tree: what a change of the nodes does to them.
use Rattle.std.proofs.Common.{◌≡◌, ℕ, zero, suc, ◌+◌, ◌*◌, ◌<◌, ◌≤◌, ◌^◌, List, [], ◌∷◌, ◌++◌, length, take, get_or, refl, ap, ◌∙◌, arith, inl, inr}
use Rattle.std.proofs.lemmas.Bool.{lt-ltb, le-ltb, cases_order}
use Rattle.std.proofs.Math.Nat.{mul-le-mul_right}
use Rattle.node_base.specs.Form.{stated_size}
use Rattle.spec_node.specs.Key.{next_byte}
use Rattle.node_table.specs.Shape.{Replaces, FillsLeaf, AddsLeaf, SplitsNode, grown_form, new_leaf, in_order}
use Rattle.tree_edit.specs.Reduce.{LosesKey}
use Rattle.node_table.specs.Table.{NodeTable, NodeInfo, nodes_of, nodes_at, AreChildren, IsTree}
use Rattle.node_base.specs.declared.base_node.NodeType.{NodeType}
use Rattle.node_base.specs.declared.base_node.NodeType.TheVariants.{N4, N16, N48, N256}
use Rattle.spec_node.specs.TableNode.{Child}
use Rattle.spec_node.specs.declared.child.Child.TheVariants.{Payload, Node}
use Rattle.spec_map.proofs.ByteMapLaws.{length-from_Rises}
use Rattle.node_table.proofs.NodesLaws.{below}
use Rattle.tree_path.specs.Charge.{total, charge_of}
use Rattle.tree_path.specs.inner.Supply.{count, with_form, one, size_of, IsCounted, AreFew, Trades}
use Rattle.tree_path.specs.inner.Root.{depth}
use Rattle.tree_path.specs.declared.supply.FormCounts.{FormCounts}
use Rattle.tree_path.proofs.PathEndLaws.{depth_is}

module _ (w : NodeType → ℕ) where
  pub total-append : (xs ys : List NodeInfo) → total w (xs ++ ys) ≡ total w xs + total w ys
  total-append [] ys = omega arith
  total-append (x ∷ xs) ys = omega (arith, total-append xs ys)

  total-replaces : (old new gone come : List NodeInfo) → Replaces old new gone come → total w old + total w come ≡ total w new + total w gone
  total-replaces old new gone come r =
      let a = ap (total w) r.was ∙ total-append r.before (gone ++ r.after) in
      let b = total-append gone r.after in
      let c = ap (total w) r.is ∙ total-append r.before (come ++ r.after) in
      let d = total-append come r.after in
      omega (arith, a, b, c, d)

  pub total-gone : (old new gone come : List NodeInfo) → Replaces old new gone come → total w gone ≤ total w old
  total-gone old new gone come r =
      let a = ap (total w) r.was ∙ total-append r.before (gone ++ r.after) in
      let b = total-append gone r.after in
      omega (arith, a, b)

  pub total-fills : (old : List NodeInfo) (key : List ℕ) (new : List NodeInfo) (x : FillsLeaf old key new) → total w new + w x.leaf.form ≡ total w old + w (grown_form x.leaf.form x.leaf.count)
  total-fills old key new x = let r = total-replaces old new _ _ x.replaces in omega (arith, r)

  pub total-adds : (old : List NodeInfo) (key : List ℕ) (new : List NodeInfo) (x : AddsLeaf old key new) → total w new + w x.node.form ≡ total w old + (w (grown_form x.node.form x.node.count) + w N4)
  total-adds old key new x =
      let r = total-replaces old new _ _ x.replaces in
      let a = total-append x.left x.right in
      let b = total-append x.left (new_leaf (x.node.prefix ++ next_byte x.node.prefix key ∷ []) key ∷ x.right) in
      omega (arith, r, a, b)

  in_order-total : (a b : ℕ) (xs ys : List NodeInfo) → total w (in_order a xs b ys) ≡ total w xs + total w ys
  in_order-total a b xs ys =
      elim (cases_order a b) [
        | inl same ↦ let x = total-append ys xs in rw (le-ltb a b (omega (arith, same))) (omega (arith, x))
        | inr (inl less) ↦ rw (lt-ltb a b less) (total-append xs ys)
        | inr (inr more) ↦ let x = total-append ys xs in rw (le-ltb a b (omega (arith, more))) (omega (arith, x))
      ]

  pub total-splits : (old : List NodeInfo) (key : List ℕ) (new : List NodeInfo) → SplitsNode old key new → total w new ≡ total w old + (w N4 + w N4)
  total-splits old key new x =
      let r = total-replaces old new _ _ x.replaces in
      let lower : NodeInfo = record { edge = take x.at key ++ get_or x.node.prefix x.at 0 ∷ []; prefix = x.node.prefix; form = x.node.form; count = x.node.count } in
      let leaf = new_leaf (take x.at key ++ get_or key x.at 0 ∷ []) key in
      let o = in_order-total (get_or x.node.prefix x.at 0) (get_or key x.at 0) (lower ∷ x.below) (leaf ∷ []) in
      omega (arith, r, o)

  -- what a removal subtracts
  pub total-loses : (old : List NodeInfo) (key : List ℕ) (new : List NodeInfo) (x : LosesKey old key new) → total w new + (w x.node.form + total w x.gone) ≡ total w old + w x.less.form
  total-loses old key new x =
      let r = total-replaces old new _ _ x.replaces in
      let a = total-append x.left (x.gone ++ x.right) in
      let b = total-append x.gone x.right in
      let c = total-append x.left x.right in
      omega (arith, r, a, b, c)

  -- how many nodes a tree of so many levels has at most
  abbrev most : ℕ → ℕ
  most zero = 0
  most (suc levels) = 1 + 256 * most levels

  module _ {P : Type 0} (s : NodeTable P) (light : (form : NodeType) → w form ≤ 1) where
    total-children : (levels : ℕ) → ((q : List ℕ) (slot : ℕ) → IsTree s levels q slot → total w (nodes_at s levels q slot) ≤ most levels)
        → (p : List ℕ) (es : List (ℕ × Child P)) → AreChildren (λ r j. IsTree s levels r j) p es → total w (nodes_of (below s levels) p es) ≤ length es * most levels
    total-children levels ih p [] h = omega arith
    total-children levels ih p ((b, Payload v) ∷ es) h = let r = total-children levels ih p es h.1 in omega (arith, r)
    total-children levels ih p ((b, Node j) ∷ es) h =
        let r = total-children levels ih p es h.1 in
        let x = ih (p ++ b ∷ []) j h.0 in
        let a = total-append (nodes_at s levels (p ++ b ∷ []) j) (nodes_of (below s levels) p es) in
        omega (arith, r, x, a)

    total-tree : (levels : ℕ) (q : List ℕ) (slot : ℕ) → IsTree s levels q slot → total w (nodes_at s levels q slot) ≤ most levels
    total-tree zero q slot h = absurd h
    total-tree (suc levels) q slot h =
        let n = h.node in
        let c = total-children levels (total-tree levels) n.prefix n.children h.children in
        let l : length n.children ≤ 256 = omega (arith, length-from_Rises 0 256 n.children (omega arith) h.sound.ordered) in
        let m = mul-le-mul_right (most levels) l in
        rw h.here (omega (arith, c, m, light n.form))

    few_nodes : (root : ℕ) → IsTree s depth [] root → total w (nodes_at s depth [] root) < 2 ^ 60
    few_nodes root h = let m = total-tree depth [] root h in let e : most depth ≡ most 8 = ap most depth_is in omega (arith, m, e)

-- each form counts its own nodes, once
pub counts_one : (f g : NodeType) → (one f g ≤ 1) × ((c : FormCounts) → count f (with_form g c) ≡ count f c + one f g)
counts_one N4 N4 = (omega arith, λ c. omega arith)
counts_one N4 N16 = (omega arith, λ c. omega arith)
counts_one N4 N48 = (omega arith, λ c. omega arith)
counts_one N4 N256 = (omega arith, λ c. omega arith)
counts_one N16 N4 = (omega arith, λ c. omega arith)
counts_one N16 N16 = (omega arith, λ c. omega arith)
counts_one N16 N48 = (omega arith, λ c. omega arith)
counts_one N16 N256 = (omega arith, λ c. omega arith)
counts_one N48 N4 = (omega arith, λ c. omega arith)
counts_one N48 N16 = (omega arith, λ c. omega arith)
counts_one N48 N48 = (omega arith, λ c. omega arith)
counts_one N48 N256 = (omega arith, λ c. omega arith)
counts_one N256 N4 = (omega arith, λ c. omega arith)
counts_one N256 N16 = (omega arith, λ c. omega arith)
counts_one N256 N48 = (omega arith, λ c. omega arith)
counts_one N256 N256 = (omega arith, λ c. omega arith)

pub counts_itself : (f : NodeType) → one f f ≡ 1
counts_itself N4 = refl
counts_itself N16 = refl
counts_itself N48 = refl
counts_itself N256 = refl

size_one : (f : NodeType) → stated_size f ≡ one N4 f * 64 + (one N16 f * 168 + (one N48 f * 672 + one N256 f * 2104))
size_one N4 = refl
size_one N16 = refl
size_one N48 = refl
size_one N256 = refl

size_total : (nodes : List NodeInfo) → charge_of nodes ≡ total (one N4) nodes * 64 + (total (one N16) nodes * 168 + (total (one N48) nodes * 672 + total (one N256) nodes * 2104))
size_total [] = refl
size_total (n ∷ nodes) = omega (arith, size_one n.form, size_total nodes)

module _ (forms : FormCounts) (nodes : List NodeInfo) (h : IsCounted forms nodes) where
  -- the counts give the sum of the sizes
  pub size_counted : size_of forms ≡ charge_of nodes
  size_counted = omega (arith, size_total nodes, h N4, h N16, h N48, h N256)

  module _ (forms' : FormCounts) (nodes' : List NodeInfo) where
    pub counted_trade : (gone come : NodeType) → Trades forms gone come forms' → ((f : NodeType) → total (one f) nodes' + one f gone ≡ total (one f) nodes + one f come) → IsCounted forms' nodes'
    counted_trade gone come x sums f =
        omega (arith, ap (count f) x, (counts_one f gone).1 forms', (counts_one f come).1 forms, h f, sums f)

    pub counted_trade_more : (gone come more : NodeType) → Trades (with_form more forms) gone come forms' → ((f : NodeType) → total (one f) nodes' + one f gone ≡ total (one f) nodes + (one f come + one f more)) → IsCounted forms' nodes'
    counted_trade_more gone come more x sums f =
        omega (arith, ap (count f) x, (counts_one f gone).1 forms', (counts_one f come).1 (with_form more forms), (counts_one f more).1 forms, h f, sums f)

    pub counted_two : (first second : NodeType) → forms' ≡ with_form second (with_form first forms) → ((f : NodeType) → total (one f) nodes' ≡ total (one f) nodes + (one f first + one f second)) → IsCounted forms' nodes'
    counted_two first second x sums f =
        omega (arith, ap (count f) x, (counts_one f second).1 (with_form first forms), (counts_one f first).1 forms, h f, sums f)

-- the counts of a tree are far below their bound
pub few_counted : {P : Type 0} (s : NodeTable P) (root : ℕ) (forms : FormCounts) → IsTree s depth [] root → IsCounted forms (nodes_at s depth [] root) → AreFew forms
few_counted s root forms h c f = let few = few_nodes (one f) s (λ g. (counts_one f g).0) root h in omega (arith, few, c f)
