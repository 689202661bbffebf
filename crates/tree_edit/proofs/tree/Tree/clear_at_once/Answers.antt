use Rattle.std.proofs.Common.{ap, sym, length, inl, refl, subst}
use Rattle.tree_path.specs.Charge.{charge_of, MovesAlike}
use Rattle.tree_path.specs.inner.Root.{tree_nodes}
use Rattle.tree_links.specs.SeenTable.{name_of}
use Rattle.tree_edit.specs.Tree.{TreeView}
use Rattle.tree_edit.proofs.NewLaws.{moved_by, root_above, root_stands, root_tree, root_pairs, root_nodes, root_counted}
use Rattle.tree_edit.proofs.WeightLaws.{size_counted}
use Rattle.tree_edit.proofs.tree.Tree.clear_at_once.Goals as goal

pub keep_root-requires : goal.keep_root-requires
keep_root-requires g c =
    let i = c.self.invariant in
    root_above _ _ _ i.tree i.rooted i.by_form

pub invariant_of-self : goal.invariant_of-self
invariant_of-self g c =
    let there = c.in-Ok.ensures in
    record {
      tree = root_tree _ _ _ there refl;
      rooted = root_stands _ _ _ there refl;
      filled = rw (root_nodes _ _ _ there refl) (inl refl, tt);
      by_form = root_counted _ _ _ there refl _ c.keep_root.ensures.forms;
      counted = ap length (sym (root_pairs _ _ _ there refl));
    }

pub returns-clause-pairs : goal.returns-clause-pairs
returns-clause-pairs g c = λ is. root_pairs _ _ _ c.in-Ok.ensures refl

pub returns-clause-nodes : goal.returns-clause-nodes
returns-clause-nodes g c = λ is. root_nodes _ _ _ c.in-Ok.ensures refl

pub returns-clause-charge : goal.returns-clause-charge
returns-clause-charge g c =
    let charge = g.A.Allocator.charge in
    let new = c.keep_root.new.self in
    let t = c.in-Ok.nodes.table in
    let root = name_of c.in-Ok.root in
    let counted = root_counted t root _ c.in-Ok.ensures refl new.forms c.keep_root.ensures.forms in
    let both = moved_by charge c.self.inside.supply.budget new.budget _ _ _ _ (size_counted _ _ c.self.invariant.by_form) (size_counted _ _ counted) c.keep_root.ensures.alike in
    subst (λ (v : TreeView g.row.P.Denot g.row.A.Denot). MovesAlike (charge v.budget) (charge_of v.nodes) (charge new.budget) (charge_of (tree_nodes t root))) c.self.view_is both
