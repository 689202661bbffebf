-- The list of a tree's nodes, node by node.
use Rattle.std.proofs.Common.{◌≡◌, ℕ, ◌+◌, ◌-◌, List, length, IsSome, refl, ap, ◌∙◌, arith}
use Rattle.spec_map.specs.Map.{lookup, without, Rises}
use Rattle.spec_node.specs.TableNode.{TableNode, Child}
use Rattle.node_table.specs.Table.{NodeInfo, node_info, nodes_of}
use Rattle.node_base.specs.declared.base_node.NodeType.{NodeType}
use Rattle.spec_map.proofs.ByteMapLaws.{length-without_present}
use Rattle.tree_edit.specs.Reduce.{with_one_less}

info-less : (e p q : List ℕ) (f g : NodeType) (a b : ℕ) → p ≡ q → f ≡ g → a + 1 ≡ b → ◌≡◌ {A = NodeInfo} (record { edge = e; prefix = p; form = f; count = a }) (with_one_less (record { edge = e; prefix = q; form = g; count = b }))
info-less e p q f g a b x y z = let l : a ≡ b - 1 = omega (arith, z) in rw (x, y, l) refl

module _ {P : Type 0} where
  -- one node's info with one child less
  pub less_info : (q : List ℕ) (n m : TableNode P) (b : ℕ) → Rises 0 256 n.children → IsSome (lookup n.children b) → m.prefix ≡ n.prefix → m.children ≡ without n.children b → m.form ≡ n.form
      → node_info q m ≡ with_one_less (node_info q n)
  less_info q n m b o some e f g =
      info-less q m.prefix n.prefix m.form n.form (length m.children) (length n.children) e g
      (ap (λ x. length x + 1) f ∙ length-without_present 0 256 n.children b o some)

  pub nodes-same : (below : List ℕ → ℕ → List NodeInfo) (p q : List ℕ) (xs ys : List (ℕ × Child P)) → p ≡ q → xs ≡ ys → nodes_of below p xs ≡ nodes_of below q ys
  nodes-same below p q xs ys e f = rw (e, f) refl
