-- The root keeps its form and its prefix.
use Rattle.std.proofs.Common.{◌≡◌, ℕ, List, [], length, Some, refl, ap, sym, subst, ◌∙◌, arith, inl, inr}
use Rattle.std.proofs.lemmas.Bool.{cases_eq}
use Rattle.spec_node.specs.Key.{IsFirstDifference}
use Rattle.node_table.specs.Shape.{grown_form}
use Rattle.node_table.specs.Table.{NodeTable, node_at}
use Rattle.spec_node.specs.TableNode.{TableNode, Child}
use Rattle.node_base.specs.declared.base_node.NodeType.{NodeType}
use Rattle.node_base.specs.declared.base_node.NodeType.TheVariants.{N256}
use Rattle.node_table.proofs.WriteLaws.{KeepsSlots}
use Rattle.tree_path.specs.inner.Descent.{FindsEnd, EndsAt, Differs, EndPlace}
use Rattle.tree_path.specs.inner.Root.{HasRoot}
use Rattle.tree_edit.specs.inner.Writes.{SameElsewhere, WritesChild, Adds, Splits}

grown_largest : (f : NodeType) (c : ℕ) → f ≡ N256 → grown_form f c ≡ N256
grown_largest f c e = rw e refl

module _ {P : Type 0} (s t : NodeTable P) (root slot : ℕ) (r : HasRoot s root) where
  -- the node in this slot still is one that a root may be, if it was
  abbrev StaysRoot : Type 0
  StaysRoot =
      (n : TableNode P) → node_at s slot ≡ Some n → n.form ≡ N256 → n.prefix ≡ [] → (m : TableNode P) × (node_at t slot ≡ Some m) × (m.form ≡ N256) × (m.prefix ≡ [])

  root_stays : KeepsSlots slot s t → StaysRoot → HasRoot t root
  root_stays keeps stays = elim (cases_eq root slot) [
    | inl same ↦
        let x = stays r.node (subst (λ i. node_at s i ≡ Some r.node) same r.here) r.form r.prefix in
        record { node = x.0; here = subst (λ i. node_at t i ≡ Some x.0) (sym same) x.1; form = x.2; prefix = x.3 }
    | inr other ↦ record { node = r.node; here = keeps root r.node other r.here; form = r.form; prefix = r.prefix }
  ]

  pub change_root : (b : ℕ) (c : Child P) → SameElsewhere slot s t → WritesChild s t slot b c → HasRoot t root
  change_root b c keeps writes =
      root_stays (λ i m d there. keeps i d ∙ there) (λ n here form prefix.
      let x = writes n here in
      (x.0, x.1, x.4 ∙ form, x.2 ∙ prefix))

  pub add_root : (key : List ℕ) (b : ℕ) (v : P) → Adds s t slot key b v → HasRoot t root
  add_root key b v adds =
      root_stays adds.0 (λ n here form prefix.
      let x = adds.1 n here in
      (x.1, x.2, x.5 ∙ grown_largest n.form (length n.children) form, x.3 ∙ prefix))

  split_root : (key : List ℕ) (at : ℕ) (v : P) → Splits s t slot key at v → (n : TableNode P) → node_at s slot ≡ Some n → IsFirstDifference n.prefix key at → HasRoot t root
  split_root key at v x n here d =
      root_stays x.keeps (λ o there form prefix. absurd (
      let both : Some n ≡ Some o = sym here ∙ there in
      let is : n ≡ o = cc in
      let none : length n.prefix ≡ 0 = ap (λ (y : TableNode P). length y.prefix) is ∙ ap (λ (p : List ℕ). length p) prefix in
      omega (arith, none, d.inside)))

module _ {P : Type 0} (s t : NodeTable P) (root : ℕ) (key : List ℕ) (v : P) (r : HasRoot s root) (place : EndPlace P) (a : EndsAt s root key place) where
  pub split_root_at : (at : ℕ) → place.end ≡ Differs at → Splits s t place.slot key at v → HasRoot t root
  split_root_at at is x = split_root s t root place.slot r key at v x a.node a.here (subst (λ e. FindsEnd key a.node e) is a.end)
