-- A removal goes up the key's path: what it has done to the table so far, after one step more, and in the end.
use Rattle.std.proofs.Common.{◌≡◌, ◌≢◌, ℕ, suc, ◌+◌, ◌<◌, List, [], ◌∷◌, ◌++◌, length, Some, IsSome, ◌⊎◌, refl, ap, sym, subst, ◌∙◌, arith, inl, inr, length-append}
use Rattle.spec_map.specs.Map.{lookup, without}
use Rattle.spec_map.proofs.ByteMapLaws.{length-without_present}
use Rattle.spec_node.specs.Key.{AreBytes, key_number, Begins, next_byte}
use Rattle.spec_node.specs.TableNode.{TableNode}
use Rattle.node_table.specs.Table.{NodeTable, node_at, node_info, pairs_at, nodes_at, IsTree}
use Rattle.spec_node.specs.declared.child.Child.TheVariants.{Node}
use Rattle.node_table.proofs.BeginLaws.{after, begins_append}
use Rattle.node_table.proofs.DownLaws.{Begins-trans}
use Rattle.node_table.proofs.KeyLaws.{goes_on}
use Rattle.node_table.proofs.NodesLaws.{Replaces-trans}
use Rattle.tree_path.proofs.PathEndLaws.{along}
use Rattle.tree_path.specs.inner.Descent.{PathTo}
use Rattle.tree_path.specs.inner.Root.{depth}
use Rattle.tree_edit.proofs.ShapeLaws.{along_nodes, alone}
use Rattle.tree_edit.proofs.WithoutLaws.{without_local}
use Rattle.tree_edit.specs.inner.Takes.{KeepsBut, Loses}
use Rattle.tree_edit.specs.Reduce.{IsLessened, LosesKey}
use Rattle.tree_edit.specs.inner.Rise.{Risen}
use Rattle.tree_edit.proofs.LostLaws.{lost, WasAlone, was_alone}

pub longer_than : (p : List ℕ) (b : ℕ) (r : List ℕ) → Begins (p ++ b ∷ []) r → r ≡ p → ⊥
longer_than p b r h e =
    let g : Begins (p ++ b ∷ []) p = subst (λ z. Begins (p ++ b ∷ []) z) e h in
    let k = simp (length-append, length-append) at (ap length (after g).is) in omega arith

module _ {P : Type 0} (s : NodeTable P) (key : List ℕ) where
  -- ONE STEP MORE: the node has nothing left, so it is taken out of its parent
  unfoldable pub rises : (t t' : NodeTable P) (levels : ℕ) (q : List ℕ) (slot : ℕ) (h : IsTree s (suc levels) q slot) (m : TableNode P) → Risen s key t levels q slot h.node m → length m.children ≡ 0
      → (above : TableNode P) (parent : ℕ) → node_at s parent ≡ Some above → Begins above.prefix key → q ≡ above.prefix ++ next_byte above.prefix key ∷ [] → lookup above.children (next_byte above.prefix key) ≡ Some (Node slot)
      → (p : List ℕ) (m' : TableNode P) → KeepsBut parent slot t t' → node_at t' parent ≡ Some m' → Loses above (next_byte above.prefix key) m'
      → Risen s key t' (suc levels) p parent above m'
  rises t t' levels q slot h m r none above parent here begins is found p m' but there loses =
      let n = h.node in
      let c = next_byte above.prefix key in
      let b = next_byte n.prefix key in
      let k = key_number key in
      let empty : length (without n.children b) ≡ 0 = ap length (sym r.children) ∙ none in
      let w : WasAlone s levels q slot b k n r.child = was_alone s levels q slot b k r.child h empty r.found r.spent in
      let inside : Begins (above.prefix ++ c ∷ []) n.prefix = subst (λ z. Begins z n.prefix) is h.begins in
      record {
        begins = begins;
        there = there;
        prefix = loses.0;
        children = loses.1;
        child = Node slot;
        found = found;
        spent = w.pairs;
        gone = node_info q n ∷ r.gone;
        nodes = subst (λ z. nodes_at s (suc levels) z slot ≡ node_info q n ∷ r.gone) is (w.nodes ∙ ap (λ x. node_info q n ∷ x) r.nodes);
        way = (is, r.begins, w.one, r.way);
        keeps = λ i x far off at.
            let not_slot : i ≢ slot = λ e.
            let both : Some x ≡ Some n = sym at ∙ subst (λ z. node_at s z ≡ Some n) (sym e) h.here in
            let same : x ≡ n = cc in
            off (subst (λ (z : TableNode P). Begins (above.prefix ++ c ∷ []) z.prefix) (sym same) inside) in
            let still : node_at t i ≡ Some x = r.keeps i x not_slot (λ deep. off (Begins-trans (above.prefix ++ c ∷ []) n.prefix x.prefix inside (Begins-trans n.prefix (n.prefix ++ b ∷ []) x.prefix (begins_append n.prefix (b ∷ [])) deep))) at in
            but i far not_slot ∙ still;
      }

  -- so far the node above is unchanged
  pub above_stays : (t : NodeTable P) (levels : ℕ) (q : List ℕ) (slot : ℕ) (h : IsTree s (suc levels) q slot) (m : TableNode P) → Risen s key t levels q slot h.node m
      → (above : TableNode P) (parent : ℕ) → node_at s parent ≡ Some above → q ≡ above.prefix ++ next_byte above.prefix key ∷ [] → node_at t parent ≡ Some above
  above_stays t levels q slot h m r above parent here is =
      let n = h.node in
      let c = next_byte above.prefix key in
      let b = next_byte n.prefix key in
      let inside : Begins (above.prefix ++ c ∷ []) n.prefix = subst (λ z. Begins z n.prefix) is h.begins in
      r.keeps parent above
      (λ e.
      let both : Some above ≡ Some n = sym here ∙ subst (λ z. node_at s z ≡ Some n) (sym e) h.here in
      let same : above ≡ n = cc in
      longer_than above.prefix c n.prefix inside (ap (λ (z : TableNode P). z.prefix) (sym same)))
      (λ deep. longer_than above.prefix c above.prefix (Begins-trans (above.prefix ++ c ∷ []) n.prefix above.prefix inside (Begins-trans n.prefix (n.prefix ++ b ∷ []) above.prefix (begins_append n.prefix (b ∷ [])) deep)) refl)
      here

module _ {P : Type 0} (s t : NodeTable P) (root : ℕ) (key : List ℕ) (bytes : AreBytes key) (full : length key ≡ 8) where
  -- THE END: the node keeps a child, or is the root
  pub record Removed : Type 0 where
    pub tree : IsTree t depth [] root
    pub pairs : pairs_at t depth root ≡ without (pairs_at s depth root) (key_number key)
    pub nodes : LosesKey (nodes_at s depth [] root) key (nodes_at t depth [] root)

  unfoldable pub removed : (above levels slot : ℕ) (q : List ℕ) (path : PathTo s root key above (suc levels) q slot) (h : IsTree s (suc levels) q slot) (m : TableNode P) → Risen s key t levels q slot h.node m
      → (h.node.prefix ≡ []) ⊎ (0 < length m.children) → IsLessened (node_info q h.node) (node_info q m) → Removed
  removed above levels slot q path h m r stays less =
      let n = h.node in
      let p = n.prefix in
      let b = next_byte p key in
      let k = key_number key in
      let on = goes_on p key r.begins bytes h.sound.short full in
      let l = lost s t levels q slot b k r.child m h r.keeps r.there r.prefix r.children r.found r.spent on.at_least on.below in
      let whole = along s root key bytes full t (λ es. without es k) (without_local k) above (suc levels) slot q path l.tree l.pairs l.others in
      let lift = along_nodes s t root key above (suc levels) slot q path l.others in
      let some : IsSome (lookup n.children b) = rw r.found refl in
      let one_more : length m.children + 1 ≡ length n.children = ap (λ x. length x + 1) r.children ∙ length-without_present 0 256 n.children b h.sound.ordered some in
      let was : nodes_at s (suc levels) q slot ≡ node_info q n ∷ (l.among.left ++ (r.gone ++ l.among.right)) = l.was ∙ ap (λ x. node_info q n ∷ (l.among.left ++ (x ++ l.among.right))) r.nodes in
      record {
        tree = whole.0;
        pairs = whole.1;
        nodes = record {
          node = node_info q n;
          begins = r.begins;
          stays = elim stays as (λ z. (n.prefix ≡ []) ⊎ (1 < length n.children)) [ inl top ↦ inl top | inr more ↦ inr (omega (arith, more, one_more)) ];
          less = node_info q m;
          lessened = less;
          gone = r.gone;
          alone = r.way;
          left = l.among.left;
          right = l.among.right;
          smaller = l.among.smaller;
          greater = l.among.greater;
          replaces = Replaces-trans (nodes_at s depth [] root) (nodes_at t depth [] root) (nodes_at s (suc levels) q slot) (nodes_at t (suc levels) q slot) _ _ lift (alone (nodes_at s (suc levels) q slot) (nodes_at t (suc levels) q slot) _ _ was l.is);
        };
      }
