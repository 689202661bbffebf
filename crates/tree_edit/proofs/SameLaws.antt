-- A tree that is the same in another table: what is known of it holds there.
use Rattle.std.proofs.Common.{◌≡◌, ℕ, zero, suc, List, [], ◌∷◌, length, Some, refl, ap, sym, subst, ◌∙◌}
use Rattle.spec_node.specs.Key.{key_number}
use Rattle.node_table.specs.Shape.{Reshapes}
use Rattle.node_table.specs.Table.{NodeTable, NodeInfo, node_at, node_info, nodes_of, nodes_at, IsTree}
use Rattle.spec_node.specs.TableNode.{TableNode}
use Rattle.node_table.proofs.DownLaws.{KeepsBelow, frame}
use Rattle.node_table.proofs.NodesLaws.{below, frame_nodes}
use Rattle.spec_map.specs.Map.{lookup, put}
use Rattle.std.specs.Prelude.{Bool, None}
use Rattle.tree_path.specs.inner.Root.{depth, HasRoot, HasTree, tree_nodes, tree_pairs}
use Rattle.tree_path.specs.inner.Supply.{IsCounted}
use Rattle.tree_path.specs.declared.supply.FormCounts.{FormCounts}
use Rattle.tree_edit.specs.Reduce.{AreFilled}
use Rattle.tree_edit.specs.Tree.{TreeView}
use Rattle.tree_edit.specs.inner.Rise.{IsRemoval}
use Rattle.tree_edit.specs.inner.Whole.{IsWhole}
use Rattle.tree_links.specs.SameTree.{MovesTree, SameTree}
use Rattle.tree_edit.specs.inner.Gains.{GainsPair}

module _ {P : Type 0} where
  -- a table with the same nodes
  pub same_table : (s t : NodeTable P) (root : ℕ) → HasTree s root → ((o : ℕ) → node_at t o ≡ node_at s o) → SameTree s t root
  same_table s t root tree same =
      let keeps : KeepsBelow [] s t = λ o n here begins. same o ∙ here in
      let f = frame s t depth [] root tree keeps in
      record { tree = f.tree; pairs = f.pairs; nodes = frame_nodes s t depth [] root tree keeps }

  -- the top of the same list of nodes is the same root
  top_node : (s t : NodeTable P) (levels root other : ℕ) (q : List ℕ) → IsTree s levels q root → IsTree t levels q other → nodes_at t levels q other ≡ nodes_at s levels q root → HasRoot s root → HasRoot t other
  top_node s t zero root other q h k same r = absurd h
  top_node s t (suc levels) root other q h k same r =
      let both : Some h.node ≡ Some r.node = sym h.here ∙ r.here in
      let is : h.node ≡ r.node = cc in
      let in_t : nodes_at t (suc levels) q other ≡ node_info q k.node ∷ nodes_of (below t levels) k.node.prefix k.node.children = rw k.here refl in
      let in_s : nodes_at s (suc levels) q root ≡ node_info q h.node ∷ nodes_of (below s levels) h.node.prefix h.node.children = rw h.here refl in
      let lists : node_info q k.node ∷ nodes_of (below t levels) k.node.prefix k.node.children ≡ node_info q h.node ∷ nodes_of (below s levels) h.node.prefix h.node.children = sym in_t ∙ same ∙ in_s in
      let first : node_info q k.node ≡ node_info q h.node = cc in
      record {
        node = k.node;
        here = k.here;
        form = ap (λ (i : NodeInfo). i.form) first ∙ ap (λ (n : TableNode P). n.form) is ∙ r.form;
        prefix = ap (λ (i : NodeInfo). i.prefix) first ∙ ap (λ (n : TableNode P). n.prefix) is ∙ r.prefix;
      }

  module _ (s t : NodeTable P) (root other : ℕ) (x : MovesTree s t root other) where
    -- where its root has another place, the parts of a tree still agree with one another
    pub moved_whole : (forms : FormCounts) (count : ℕ) → IsWhole s root forms count → IsWhole t other forms count
    moved_whole forms count w = record {
      tree = x.tree;
      rooted = top_node s t depth root other [] w.tree x.tree x.nodes w.rooted;
      filled = subst AreFilled (sym x.nodes) w.filled;
      by_form = subst (IsCounted forms) (sym x.nodes) w.by_form;
      counted = w.counted ∙ ap length (sym x.pairs);
    }

    -- and what is seen of it is the same
    pub moved_view : {A : Type 0} (budget : A) → ◌≡◌ {A = TreeView P A} (record { pairs = tree_pairs t other; nodes = tree_nodes t other; budget = budget }) (record { pairs = tree_pairs s root; nodes = tree_nodes s root; budget = budget })
    moved_view budget = rw (x.pairs, x.nodes) refl

  module _ (s t : NodeTable P) (root : ℕ) (x : SameTree s t root) where
    pub same_root : HasTree s root → HasRoot s root → HasRoot t root
    same_root tree r = top_node s t depth root root [] tree x.tree x.nodes r

    -- so the parts of a tree still agree with one another
    pub same_whole : (forms : FormCounts) (count : ℕ) → IsWhole s root forms count → IsWhole t root forms count
    same_whole forms count w = record {
      tree = x.tree;
      rooted = same_root w.tree w.rooted;
      filled = subst AreFilled (sym x.nodes) w.filled;
      by_form = subst (IsCounted forms) (sym x.nodes) w.by_form;
      counted = w.counted ∙ ap length (sym x.pairs);
    }

    -- a removal that was at its end before
    pub same_removal : (was : NodeTable P) (key : List ℕ) (shrinks : Bool) (new : FormCounts) → IsRemoval was root key shrinks s new → IsRemoval was root key shrinks t new
    same_removal was key shrinks new r = record {
      tree = x.tree;
      rooted = same_root r.tree r.rooted;
      pairs = x.pairs ∙ r.pairs;
      nodes = record {
        node = r.nodes.node;
        begins = r.nodes.begins;
        stays = r.nodes.stays;
        less = r.nodes.less;
        lessened = r.nodes.lessened;
        gone = r.nodes.gone;
        alone = r.nodes.alone;
        left = r.nodes.left;
        right = r.nodes.right;
        smaller = r.nodes.smaller;
        greater = r.nodes.greater;
        replaces = record {
          before = r.nodes.replaces.before;
          after = r.nodes.replaces.after;
          was = r.nodes.replaces.was;
          is = x.nodes ∙ r.nodes.replaces.is;
        };
      };
      in_place = r.in_place;
      counted = subst (IsCounted new) (sym x.nodes) r.counted;
    }

    -- an insertion that was at its end before, and one that begins where the tree is the same
    pub gains_then : (was : NodeTable P) (key : List ℕ) (v : P) (forms : FormCounts) → GainsPair was s root key v forms → GainsPair was t root key v forms
    gains_then was key v forms g = record {
      tree = x.tree;
      rooted = same_root g.tree g.rooted;
      absent = g.absent;
      pairs = x.pairs ∙ g.pairs;
      shape = subst (λ ns. Reshapes {P = P} None (tree_nodes was root) key ns) (sym x.nodes) g.shape;
      counted = subst (IsCounted forms) (sym x.nodes) g.counted;
    }

    pub gains_from : (end : NodeTable P) (key : List ℕ) (v : P) (forms : FormCounts) → GainsPair t end root key v forms → GainsPair s end root key v forms
    gains_from end key v forms g = record {
      tree = g.tree;
      rooted = g.rooted;
      absent = ap (λ es. lookup es (key_number key)) (sym x.pairs) ∙ g.absent;
      pairs = g.pairs ∙ ap (λ es. put es (key_number key) v) x.pairs;
      shape = subst (λ ns. Reshapes {P = P} None ns key (tree_nodes end root)) x.nodes g.shape;
      counted = g.counted;
    }
