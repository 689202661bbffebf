use Rattle.std.proofs.Common.{ap, sym, length, inl, refl}
use Rattle.tree_edit.proofs.NewLaws.{root_stands, root_tree, root_pairs, root_nodes}
use Rattle.tree_edit.proofs.NewLaws.{root_counted, root_charge}
use Rattle.tree_edit.proofs.tree.Tree.new.Goals as goal

pub invariant_of-result : goal.invariant_of-result
invariant_of-result g c =
    let there = c.in_ok-nodes.ensures in
    record {
      tree = root_tree _ _ _ there refl;
      rooted = root_stands _ _ _ there refl;
      filled = rw (root_nodes _ _ _ there refl) (inl refl, tt);
      by_form = root_counted _ _ _ there refl _ (rw c.new-supply.ensures at c.in_ok-charge.ensures.ok.forms);
      counted = ap length (sym (root_pairs _ _ _ there refl));
    }

pub returns : goal.returns
returns g c =
    let there = c.in_ok-nodes.ensures in
    let e = c.in_ok-charge.ensures.ok in
    record {
      pairs = root_pairs _ _ _ there refl;
      nodes = root_nodes _ _ _ there refl;
      charged = root_charge _ _ _ there refl g.A.Allocator.charge c.args.budget _ _ c.new-supply.ensures e.forms e.alike;
    }
