-- The tree of one node without children.
use Rattle.std.proofs.Common.{◌≡◌, ℕ, suc, ◌<◌, [], ◌∷◌, Option, Some, None, refl, ap, sym, subst, ◌∙◌, arith}
use Rattle.node_table.specs.Charge.{Charge, add_charge}
use Rattle.tree_path.specs.Charge.{charge_of, total, MovesAlike}
use Rattle.tree_path.specs.inner.Supply.{count, one, with_form, no_forms, size_of, IsCounted, SupplyView, Alike}
use Rattle.tree_path.specs.declared.supply.FormCounts.{FormCounts}
use Rattle.node_table.proofs.BeginLaws.{begins_append}
use Rattle.node_table.specs.Table.{NodeTable, node_at, pairs_at, nodes_at, node_info, IsTree}
use Rattle.spec_node.specs.TableNode.{TableNode}
use Rattle.node_table.proofs.WriteLaws.{Are-same, pairs-same}
use Rattle.tree_edit.proofs.InfoLaws.{nodes-same}
use Rattle.node_table.proofs.SoundLaws.{sound_from}
use Rattle.tree_path.specs.inner.Root.{depth, HasRoot}
use Rattle.node_base.specs.declared.base_node.NodeType.TheVariants.{N256}
use Rattle.tree_path.proofs.PathEndLaws.{depth_is}

module _ {P : Type 0} where
  module _ (t : NodeTable P) (root : ℕ) (n : TableNode P) (there : node_at t root ≡ Some n) (is : n ≡ record { form = N256; prefix = []; children = [] }) where
    no_prefix : n.prefix ≡ []
    no_prefix = ap (λ (x : TableNode P). x.prefix) is

    empty : n.children ≡ []
    empty = ap (λ (x : TableNode P). x.children) is

    pub root_stands : HasRoot t root
    root_stands = record { node = n; here = there; form = ap (λ (x : TableNode P). x.form) is; prefix = no_prefix }

    alone : (levels : ℕ) → IsTree t (suc levels) [] root × (pairs_at t (suc levels) root ≡ []) × (nodes_at t (suc levels) [] root ≡ node_info [] n ∷ [])
    alone levels = (
      record {
        node = n;
        here = there;
        begins = begins_append [] n.prefix;
        sound = sound_from n [] [] no_prefix empty tt (omega arith) tt;
        children = Are-same (λ r j. IsTree t levels r j) n.prefix [] n.children [] no_prefix empty tt;
      },
      rw there (pairs-same (λ j. pairs_at t levels j) n.prefix [] n.children [] no_prefix empty),
      rw there (ap (λ x. node_info [] n ∷ x) (nodes-same (λ e j. nodes_at t levels e j) n.prefix [] n.children [] no_prefix empty)),
    )

    eight : suc 7 ≡ depth
    eight = omega (arith, depth_is)

    pub root_tree : IsTree t depth [] root
    root_tree = let x = alone 7 in subst (λ l. IsTree t l [] root) eight x.0

    pub root_pairs : pairs_at t depth root ≡ []
    root_pairs = let x = alone 7 in subst (λ l. pairs_at t l root ≡ []) eight x.1

    info_is : node_info [] n ≡ record { edge = []; prefix = []; form = N256; count = 0 }
    info_is = rw is refl

    pub root_nodes : nodes_at t depth [] root ≡ record { edge = []; prefix = []; form = N256; count = 0 } ∷ []
    root_nodes =
        let x = alone 7 in
        subst (λ l. nodes_at t l [] root ≡ node_info [] n ∷ []) eight x.2 ∙ ap (λ i. i ∷ []) info_is

-- the root of any tree is counted
counted_above : {P : Type 0} (t : NodeTable P) (root levels : ℕ) → IsTree t (suc levels) [] root → HasRoot t root → 0 < total (one N256) (nodes_at t (suc levels) [] root)
counted_above t root levels h r =
    let both : Some h.node ≡ Some r.node = sym h.here ∙ r.here in
    let is : h.node ≡ r.node = cc in
    let form : h.node.form ≡ N256 = ap (λ (n : TableNode _). n.form) is ∙ r.form in
    rw h.here (rw form (omega arith))

pub root_above : {P : Type 0} (t : NodeTable P) (root : ℕ) (forms : FormCounts) → IsTree t depth [] root → HasRoot t root → IsCounted forms (nodes_at t depth [] root) → 0 < count N256 forms
root_above t root forms h r counted =
    let eight : suc 7 ≡ depth = omega (arith, depth_is) in
    let some = subst (λ l. IsTree t l [] root → 0 < total (one N256) (nodes_at t l [] root)) eight (λ tree. counted_above t root 7 tree r) h in
    subst (λ n. 0 < n) (sym (counted N256)) some

-- a charge that moves by what is counted moves by the nodes
pub moved_by : {A : Type 0} (charge : A → Option Charge) (a b : A) (was now n m : ℕ) → was ≡ n → now ≡ m → MovesAlike (charge a) was (charge b) now → MovesAlike (charge a) n (charge b) m
moved_by charge a b was now n m e f h = subst (λ x. MovesAlike (charge a) x (charge b) m) e (subst (λ x. MovesAlike (charge a) was (charge b) x) f h)

-- that node is all that is counted and charged
module _ {P : Type 0} (t : NodeTable P) (root : ℕ) (n : TableNode P) (there : node_at t root ≡ Some n) (node_is : n ≡ record { form = N256; prefix = []; children = [] }) where
  pub root_counted : (forms : FormCounts) → forms ≡ with_form N256 no_forms → IsCounted forms (nodes_at t depth [] root)
  root_counted forms one_is f = rw (root_nodes t root n there node_is, one_is) (omega arith)

  pub root_charge : {A : Type 0} (charge : A → Option Charge) (budget : A) (old new : SupplyView A) → old ≡ record { budget = budget; forms = no_forms } → new.forms ≡ with_form N256 old.forms → Alike charge old new
      → charge new.budget ≡ add_charge (charge budget) (charge_of (nodes_at t depth [] root))
  root_charge charge budget old new is one_is alike =
      let sizes : size_of new.forms ≡ 2104 = rw (one_is, is) refl in
      let none : size_of old.forms ≡ 0 = rw is refl in
      let was : charge old.budget ≡ charge budget = rw is refl in
      let whole : charge_of (nodes_at t depth [] root) ≡ 2104 = rw (root_nodes t root n there node_is) refl in
      let moved : add_charge (charge budget) 2104 ≡ add_charge (charge new.budget) 0 = rw (sizes, none, was) at alike in
      rw whole (sym (moved ∙ nothing (charge new.budget)))
    where
      nothing : (c : Option Charge) → add_charge c 0 ≡ c
      nothing None = refl
      nothing (Some c) = ap (λ (n : ℕ). Some (record { bytes = n; limit = c.limit })) (omega arith)
