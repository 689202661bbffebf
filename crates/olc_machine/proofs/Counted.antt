-- The reachable nodes of a state are those of the tree in the slots. Their
-- entries are the pairs and the nodes below the root.
use Rattle.std.proofs.Common.{◌≡◌, ℕ, zero, suc, ◌+◌, ◌-◌, List, [], ◌∷◌, ◌++◌, length, Option, Some, None, slice_index_or, refl, sym, subst, ap, ◌∙◌, arith}
use Rattle.std.specs.List.{sum_by}
use Rattle.spec_map.specs.Map.{lookup}
use Rattle.node_table.specs.Table.{NodeInfo, node_at, node_info, nodes_at, nodes_in, nodes_of, nodes_under, pairs_at, IsTree}
use Rattle.spec_node.specs.TableNode.{TableNode, Child}
use Rattle.spec_node.specs.declared.child.Child.TheVariants.{Payload, Node as below_at}
use Rattle.tree_path.specs.inner.Root.{depth}
use Rattle.tree_path.proofs.PathEndLaws.{depth_is}
use Rattle.spec_olc.specs.State.{State}
use Rattle.node_stats.proofs.EntryLaws.{entries_counted}
use Rattle.olc_words.specs.Epoch.{entry_at}
use Rattle.olc_words.specs.declared.epoch.Life.{Life}
use Rattle.olc_state.specs.declared.stage.Stored.{Stored}
use Rattle.olc_state.specs.inner.Meant.{meant_slots}
use Rattle.olc_state.specs.inner.Shown.{shown}
use Rattle.olc_state.specs.inner.Tables.{IsPlaced}
use Rattle.olc_state.specs.inner.Turns.{ShowsNodes}
use Rattle.olc_state.specs.inner.Walks.{meant_nodes}
use Rattle.olc_state.specs.inner.World.{placed_node, table_on}
use Rattle.olc_state.proofs.Walked.{the_tree}
use Rattle.olc_state.proofs.WalkLaws.{node_on, stored_node}
use Rattle.olc_machine.specs.Shape.{bare, reachable, reachable_at}

reachable_is : {M : Type 0} (s : State M) → reachable s ≡ reachable_at s 8 [] s.root
unfolding reachable
reachable_is s = refl

-- what a reader sees of a stored node, without its word
bare_stored : {M : Type 0} (life : Option Life) (x : Option (Stored M)) → stored_node x ≡ bare (shown (placed_node life x))
bare_stored life None = refl
bare_stored life (Some n) = refl

module _ {M : Type 0} (f g : List ℕ → ℕ → List NodeInfo) (same : (e : List ℕ) (j : ℕ) → f e j ≡ g e j) where
  under_same : (p : List ℕ) (b : ℕ) (c : Child M) → nodes_under f p b c ≡ nodes_under g p b c
  under_same p b (Payload v) = refl
  under_same p b (below_at j) = same (p ++ b ∷ []) j

  of_same : (p : List ℕ) (es : List (ℕ × Child M)) → nodes_of f p es ≡ nodes_of g p es
  of_same p [] = refl
  of_same p (e ∷ es) = ap (λ l. l ++ nodes_of f p es) (under_same p e.0 e.1) ∙ ap (λ l. nodes_under g p e.0 e.1 ++ l) (of_same p es)

  in_same : (edge : List ℕ) (x : Option (TableNode M)) → nodes_in f edge x ≡ nodes_in g edge x
  in_same edge None = refl
  in_same edge (Some n) = ap (λ l. node_info edge n ∷ l) (of_same n.prefix n.children)

module _ {M : Type 0} (nodes : List (Option (TableNode M))) (s : State M) (agree : (slot : ℕ) → node_at nodes slot ≡ bare (lookup s.nodes slot)) where
  same_nodes : (levels : ℕ) (edge : List ℕ) (slot : ℕ) → nodes_at nodes levels edge slot ≡ reachable_at s levels edge slot
  same_nodes zero edge slot = refl
  same_nodes (suc levels) edge slot =
      in_same (λ e j. nodes_at nodes levels e j) (λ e j. reachable_at s levels e j) (same_nodes levels) edge (node_at nodes slot)
      ∙ ap (λ x. nodes_in (λ e j. reachable_at s levels e j) edge x) (agree slot)

module _ {P M : Type 0} (meaning : P → M) (slots : List (Option (Stored P))) (lives : List (ℕ × Life)) (root : ℕ) (placed : IsPlaced (table_on (meant_slots meaning slots) lives) root) where
  pub whole_tree : IsTree (meant_nodes meaning slots) depth [] root
  whole_tree = subst (λ levels. IsTree (meant_nodes meaning slots) levels [] root) (sym depth_is) (the_tree meaning slots lives root placed)

  pub below_none : IsTree (meant_nodes meaning slots) (depth - 0) [] root
  below_none = let all : depth ≡ depth - 0 = omega arith in subst (λ levels. IsTree (meant_nodes meaning slots) levels [] root) all whole_tree

  module _ (s : State M) (shows : ShowsNodes (table_on (meant_slots meaning slots) lives) root s) where
    pub same_reachable : nodes_at (meant_nodes meaning slots) depth [] root ≡ reachable s
    same_reachable =
        ap (λ levels. nodes_at (meant_nodes meaning slots) levels [] root) depth_is
        ∙ same_nodes (meant_nodes meaning slots) s
        (λ slot. node_on (meant_slots meaning slots) slot ∙ (bare_stored (entry_at lives slot) (slice_index_or (meant_slots meaning slots) slot None) ∙ ap bare (sym (shows.nodes slot)))) 8 [] root
        ∙ ap (λ top. reachable_at s 8 [] top) (sym shows.root_is)
        ∙ sym (reachable_is s)

    pub entries_add_up : sum_by (λ n. n.count) (reachable s) + 1 ≡ length (pairs_at (meant_nodes meaning slots) 8 root) + length (reachable s)
    entries_add_up =
        subst (λ ns. sum_by (λ n. n.count) ns + 1 ≡ length (pairs_at (meant_nodes meaning slots) 8 root) + length ns) same_reachable
        (subst (λ levels. sum_by (λ n. n.count) (nodes_at (meant_nodes meaning slots) depth [] root) + 1
        ≡ length (pairs_at (meant_nodes meaning slots) levels root) + length (nodes_at (meant_nodes meaning slots) depth [] root)) depth_is
        (entries_counted (meant_nodes meaning slots) depth [] root whole_tree))
