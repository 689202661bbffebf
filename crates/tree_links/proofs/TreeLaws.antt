-- A node that goes into another place leaves the tree as it is.
use Rattle.std.proofs.Common.{◌≡◌, ◌≢◌, ℕ, zero, suc, ◌+◌, ◌<◌, List, [], ◌∷◌, ◌++◌, length, Some, None, IsSome, refl, ap, sym, subst, ◌∙◌, arith, inl, inr, length-append}
use Rattle.std.proofs.lemmas.Bool.{le-ltb, lt-ltb, eq-eqb, ne_eqb, cases_order, cases_eq}
use Rattle.spec_map.specs.Map.{lookup, put, Rises}
use Rattle.spec_map.proofs.MapLaws.{lookup-below}
use Rattle.spec_map.proofs.ByteMapLaws.{length-put_some}
use Rattle.spec_map.proofs.LocalLaws.{IsLocal}
use Rattle.spec_node.specs.Key.{AreBytes, key_number, Begins, next_byte}
use Rattle.node_table.specs.Shape.{Replaces}
use Rattle.spec_node.specs.TableNode.{TableNode, Child}
use Rattle.node_table.specs.Table.{IsSound, NodeTable, node_at, node_info, pairs_under, pairs_of, pairs_at, nodes_under, nodes_of, nodes_at, IsChild, AreChildren, IsTree}
use Rattle.spec_node.specs.declared.child.Child.TheVariants.{Payload, Node}
use Rattle.node_table.proofs.BeginLaws.{after, begins_append}
use Rattle.node_table.proofs.DownLaws.{KeepsBelow, KeepsOthers, Same, kept_each, frame, Begins-trans, one_byte}
use Rattle.node_table.proofs.EachLaws.{each, nodes_of-each}
use Rattle.node_table.proofs.NodesLaws.{below, frame_nodes, down_nodes, Replaces-all, Replaces-trans}
use Rattle.node_table.proofs.KeyLaws.{goes_on}
use Rattle.node_table.proofs.SoundLaws.{sound-put}
use Rattle.node_table.proofs.TableLaws.{IsChild-found}
use Rattle.tree_path.specs.inner.Descent.{PathTo}
use Rattle.tree_path.specs.inner.Root.{depth}
use Rattle.tree_path.proofs.PathEndLaws.{along}
use Rattle.tree_links.specs.MovesNode.{MovesNode}
use Rattle.tree_links.specs.SameTree.{SameTree, GoesOnAt}

-- what changes below a path changes the tree's nodes there
along_nodes : {P : Type 0} (s t : NodeTable P) (root : ℕ) (key : List ℕ) (above levels slot : ℕ) (q : List ℕ) → PathTo s root key above levels q slot → KeepsOthers q s t → Replaces (nodes_at s depth [] root) (nodes_at t depth [] root) (nodes_at s levels q slot) (nodes_at t levels q slot)
along_nodes s t root key zero levels slot q path others = rw (path.0, path.1, path.2) (Replaces-all (nodes_at s depth [] root) (nodes_at t depth [] root))
along_nodes s t root key (suc above) levels slot q path others =
    let h = path.tree in
    let d = down_nodes s t levels path.parent_q path.parent (next_byte h.node.prefix key) slot h path.found (subst (λ r. KeepsOthers r s t) path.is others) in
    let up = along_nodes s t root key above (suc levels) path.parent path.parent_q path.path d.1 in
    Replaces-trans (nodes_at s depth [] root) (nodes_at t depth [] root) (nodes_at s (suc levels) path.parent_q path.parent) (nodes_at t (suc levels) path.parent_q path.parent) (nodes_at s levels q slot) (nodes_at t levels q slot) up
    (subst (λ r. Replaces (nodes_at s (suc levels) path.parent_q path.parent) (nodes_at t (suc levels) path.parent_q path.parent) (nodes_at s levels r slot) (nodes_at t levels r slot)) (sym path.is) d.0)

-- what changes nothing is local
same_local : {P : Type 0} (k : ℕ) → IsLocal k (λ (es : List (ℕ × P)). es)
same_local k = record { left = λ b c xs ys r l. refl; right = λ a b xs ys r l. refl }

module _ {P : Type 0} where
  -- three facts of a subtree that is the same in another slot
  pub record SameIn (s t : NodeTable P) (levels : ℕ) (q : List ℕ) (i j : ℕ) : Type 0 where
    pub tree : IsTree t levels q j
    pub pairs : pairs_at t levels j ≡ pairs_at s levels i
    pub nodes : nodes_at t levels q j ≡ nodes_at s levels q i

  -- a node is the same in another slot of another table, where all below it is kept
  node_same : (s t : NodeTable P) (levels : ℕ) (q : List ℕ) (i j : ℕ) (h : IsTree s levels q i) (l : TableNode P) → node_at s i ≡ Some l → node_at t j ≡ Some l → ((b : ℕ) → KeepsBelow (l.prefix ++ b ∷ []) s t) → SameIn s t levels q i j
  node_same s t zero q i j h l was is keeps = absurd h
  node_same s t (suc levels) q i j h l was is keeps =
      let both : Some h.node ≡ Some l = sym h.here ∙ was in
      let same : h.node ≡ l = cc in
      let there : node_at t j ≡ Some h.node = is ∙ ap (λ (x : TableNode P). Some x) (sym same) in
      let kept : (b : ℕ) → KeepsBelow (h.node.prefix ++ b ∷ []) s t = subst (λ (x : TableNode P). (b : ℕ) → KeepsBelow (x.prefix ++ b ∷ []) s t) (sym same) keeps in
      let c = kept_each s t levels h.node.prefix h.node.children (each (λ r k. IsTree s levels r k) (λ r k. Same s t levels r k) h.node.prefix h.node.children (λ b k tree. frame s t levels (h.node.prefix ++ b ∷ []) k tree (kept b)) h.children) in
      let d = nodes_of-each (below t levels) (below s levels) h.node.prefix h.node.children (each (λ r k. IsTree s levels r k) (λ r k. nodes_at t levels r k ≡ nodes_at s levels r k) h.node.prefix h.node.children (λ b k tree. frame_nodes s t levels (h.node.prefix ++ b ∷ []) k tree (kept b)) h.children) in
      record {
        tree = record { node = h.node; here = there; begins = h.begins; sound = h.sound; children = c.0 };
        pairs = rw (there, h.here) c.1;
        nodes = rw (there, h.here) (ap (λ x. node_info q h.node ∷ x) d);
      }

  -- no node begins with its own bytes and one more
  pub not_longer : (x : TableNode P) (r : List ℕ) (b : ℕ) → Begins (r ++ b ∷ []) x.prefix → x.prefix ≡ r → ⊥
  not_longer x r b g e =
      let g' : Begins (r ++ b ∷ []) r = subst (λ z. Begins (r ++ b ∷ []) z) e g in
      let k = simp (length-append, length-append) at (ap length (after g').is) in omega arith

  -- a subtree's top begins with the bytes above it
  pub leaf_under : (s : NodeTable P) (levels : ℕ) (q : List ℕ) (i : ℕ) → IsTree s levels q i → (l : TableNode P) → node_at s i ≡ Some l → Begins q l.prefix
  leaf_under s zero q i h l was = absurd h
  leaf_under s (suc levels) q i h l was =
      let both : Some h.node ≡ Some l = sym h.here ∙ was in
      let same : h.node ≡ l = cc in
      subst (λ (n : TableNode P). Begins q n.prefix) same h.begins

  module _ (s t : NodeTable P) (parent b i j : ℕ) (w : MovesNode s t parent b i j) (under_b : Begins (w.node.prefix ++ b ∷ []) w.moved.prefix) where
    abbrev n : TableNode P
    n = w.node

    -- a node below another byte isn't the leaf, and not the parent
    keeps_beside : (c : ℕ) → c ≢ b → KeepsBelow (n.prefix ++ c ∷ []) s t
    keeps_beside c other o m there begins =
        w.keeps o m
        (λ same.
        let both : Some n ≡ Some m = sym w.here ∙ subst (λ x. node_at s x ≡ Some m) same there in
        let is : n ≡ m = cc in
        let g : Begins (n.prefix ++ c ∷ []) n.prefix = subst (λ (x : TableNode P). Begins (n.prefix ++ c ∷ []) x.prefix) (sym is) begins in
        let k = simp (length-append, length-append) at (ap length (after g).is) in omega arith)
        (λ same.
        let both : Some w.moved ≡ Some m = sym w.was ∙ subst (λ x. node_at s x ≡ Some m) same there in
        let is : w.moved ≡ m = cc in
        other (one_byte n.prefix m.prefix c b begins (subst (λ (x : TableNode P). Begins (n.prefix ++ b ∷ []) x.prefix) is under_b)))
        there

    -- what is below the node that moves is kept
    keeps_deeper : (c : ℕ) → KeepsBelow (w.moved.prefix ++ c ∷ []) s t
    keeps_deeper c o m there begins =
        w.keeps o m
        (λ same.
        let both : Some n ≡ Some m = sym w.here ∙ subst (λ x. node_at s x ≡ Some m) same there in
        let is : n ≡ m = cc in
        let deep : Begins (n.prefix ++ b ∷ []) m.prefix = Begins-trans (n.prefix ++ b ∷ []) w.moved.prefix m.prefix under_b (Begins-trans w.moved.prefix (w.moved.prefix ++ c ∷ []) m.prefix (begins_append w.moved.prefix (c ∷ [])) begins) in
        not_longer m n.prefix b deep (ap (λ (x : TableNode P). x.prefix) (sym is)))
        (λ same.
        let both : Some w.moved ≡ Some m = sym w.was ∙ subst (λ x. node_at s x ≡ Some m) same there in
        let is : w.moved ≡ m = cc in
        not_longer m w.moved.prefix c begins (ap (λ (x : TableNode P). x.prefix) (sym is)))
        there

    -- all children at once
    pub record SameBelow (levels : ℕ) (es fs : List (ℕ × Child P)) : Type 0 where
      pub trees : AreChildren (λ r k. IsTree t levels r k) n.prefix fs
      pub pairs : pairs_of (λ k. pairs_at t levels k) n.prefix fs ≡ pairs_of (λ k. pairs_at s levels k) n.prefix es
      pub nodes : nodes_of (below t levels) n.prefix fs ≡ nodes_of (below s levels) n.prefix es

    -- one child before the others
    same_cons : (levels c : ℕ) (x y : Child P) (es fs : List (ℕ × Child P)) → IsChild (λ r k. IsTree t levels r k) n.prefix c y
        → pairs_under (λ k. pairs_at t levels k) n.prefix c y ≡ pairs_under (λ k. pairs_at s levels k) n.prefix c x
        → nodes_under (below t levels) n.prefix c y ≡ nodes_under (below s levels) n.prefix c x
        → SameBelow levels es fs → SameBelow levels ((c, x) ∷ es) ((c, y) ∷ fs)
    same_cons levels c x y es fs child pairs nodes r = record {
      trees = (child, r.trees);
      pairs = ap (λ z. z ++ pairs_of (λ k. pairs_at t levels k) n.prefix fs) pairs ∙ ap (λ z. pairs_under (λ k. pairs_at s levels k) n.prefix c x ++ z) r.pairs;
      nodes = ap (λ z. z ++ nodes_of (below t levels) n.prefix fs) nodes ∙ ap (λ z. nodes_under (below s levels) n.prefix c x ++ z) r.nodes;
    }

    -- a child under another byte stays
    beside_one : (levels c : ℕ) (x : Child P) (es fs : List (ℕ × Child P)) → c ≢ b → IsChild (λ r k. IsTree s levels r k) n.prefix c x → SameBelow levels es fs → SameBelow levels ((c, x) ∷ es) ((c, x) ∷ fs)
    beside_one levels c (Payload v) es fs other h r = same_cons levels c (Payload v) (Payload v) es fs h refl refl r
    beside_one levels c (Node k) es fs other h r =
        let f = frame s t levels (n.prefix ++ c ∷ []) k h (keeps_beside c other) in
        let g = frame_nodes s t levels (n.prefix ++ c ∷ []) k h (keeps_beside c other) in
        same_cons levels c (Node k) (Node k) es fs f.tree f.pairs g r

    -- and so do all of them
    beside : (levels : ℕ) (es : List (ℕ × Child P)) → lookup es b ≡ None → AreChildren (λ r k. IsTree s levels r k) n.prefix es → SameBelow levels es es
    beside levels [] none h = record { trees = tt; pairs = refl; nodes = refl }
    beside levels (e ∷ es) none h =
        elim (cases_eq e.0 b) [
          | inl same ↦ absurd (let none' = rw (eq-eqb e.0 b same) at none in cc)
          | inr other ↦ beside_one levels e.0 e.1 es es other h.0 (beside levels es (rw (ne_eqb e.0 b other) at none) h.1)
        ]

    -- the node in its new slot, between the others
    with_moved : (levels d : ℕ) (es : List (ℕ × Child P)) → Rises d 256 es → AreChildren (λ r k. IsTree s levels r k) n.prefix es → lookup es b ≡ Some (Node i) → SameBelow levels es (put es b (Node j))
    with_moved levels d [] o h found = absurd (cc)
    with_moved levels d (e ∷ es) o h found =
        elim (cases_order e.0 b) [
          | inl same ↦
              let found' : Some e.1 ≡ Some (Node i) = rw (eq-eqb e.0 b same) at found in
              let is : e.1 ≡ Node i = cc in
              let put_is : put (e ∷ es) b (Node j) ≡ (b, Node j) ∷ es = rw (le-ltb e.0 b (omega arith), eq-eqb e.0 b same) refl in
              let e_is : e ∷ es ≡ (b, Node i) ∷ es = ap (λ x. (x, e.1) ∷ es) same ∙ ap (λ x. (b, x) ∷ es) is in
              let child : IsTree s levels (n.prefix ++ b ∷ []) i = subst (λ c. IsChild (λ r k. IsTree s levels r k) n.prefix b c) is (subst (λ x. IsChild (λ r k. IsTree s levels r k) n.prefix x e.1) same h.0) in
              let x = node_same s t levels (n.prefix ++ b ∷ []) i j child w.moved w.was w.is keeps_deeper in
              let none : lookup es b ≡ None = lookup-below (e.0 + 1) 256 es b o.2 (omega arith) in
              subst (λ y. SameBelow levels y (put (e ∷ es) b (Node j))) (sym e_is)
              (subst (λ y. SameBelow levels ((b, Node i) ∷ es) y) (sym put_is)
              (same_cons levels b (Node i) (Node j) es es x.tree x.pairs x.nodes (beside levels es none h.1)))
          | inr (inl less) ↦
              let found' = rw (ne_eqb e.0 b (omega arith)) at found in
              let put_is : put (e ∷ es) b (Node j) ≡ e ∷ put es b (Node j) = rw (lt-ltb e.0 b less) refl in
              let r = with_moved levels (e.0 + 1) es o.2 h.1 found' in
              let other : e.0 ≢ b = omega arith in
              subst (λ y. SameBelow levels (e ∷ es) y) (sym put_is) (beside_one levels e.0 e.1 es (put es b (Node j)) other h.0 r)
          | inr (inr more) ↦
              let found' = rw (ne_eqb e.0 b (omega arith), lookup-below (e.0 + 1) 256 es b o.2 (omega arith)) at found in absurd (cc)
        ]

  -- AT THE PARENT: the subtree is the same, and nothing outside it changes
  pub record SameAt (s t : NodeTable P) (levels : ℕ) (q : List ℕ) (slot : ℕ) : Type 0 where
    pub same : SameIn s t levels q slot slot
    pub others : KeepsOthers q s t

  moved_here : (s t : NodeTable P) (levels parent b i j : ℕ) (q : List ℕ) (w : MovesNode s t parent b i j) → b < 256 → Begins q w.node.prefix → IsSound w.node → AreChildren (λ r k. IsTree s levels r k) w.node.prefix w.node.children → SameAt s t (suc levels) q parent
  moved_here s t levels parent b i j q w byte begins sound children =
      let n = w.node in
      let m : TableNode P = record n { children = put n.children b (Node j) } in
      let child : IsChild {P = P} (λ r k. IsTree s levels r k) n.prefix b (Node i) = IsChild-found s levels n.prefix n.children b (Node i) children w.found in
      let leaf_begins : Begins (n.prefix ++ b ∷ []) w.moved.prefix = leaf_under s levels (n.prefix ++ b ∷ []) i child w.moved w.was in
      let r = with_moved s t parent b i j w leaf_begins levels 0 n.children sound.ordered children w.found in
      let some : IsSome (lookup n.children b) = rw w.found refl in
      let count : length (put n.children b (Node j)) ≡ length n.children = length-put_some 0 256 n.children b (Node j) sound.ordered some in
      let info : node_info q m ≡ node_info q n = ap (λ c. record { edge = q; prefix = n.prefix; form = n.form; count = c }) count in
      record {
        same = record {
          tree = record { node = m; here = w.there; begins = begins; sound = sound-put n m b (Node j) sound byte refl refl; children = r.trees };
          pairs = rw (w.there, w.here) r.pairs;
          nodes = rw (w.there, w.here) (ap (λ z. z ∷ nodes_of (below t levels) n.prefix (put n.children b (Node j))) info ∙ ap (λ z. node_info q n ∷ z) r.nodes);
        };
        others = λ o x at not_below. w.keeps o x
            (λ e. let two : Some n ≡ Some x = sym w.here ∙ subst (λ z. node_at s z ≡ Some x) e at in let is : n ≡ x = cc in not_below (subst (λ (z : TableNode P). Begins q z.prefix) is begins))
            (λ e. let two : Some w.moved ≡ Some x = sym w.was ∙ subst (λ z. node_at s z ≡ Some x) e at in let is : w.moved ≡ x = cc in
            not_below (subst (λ (z : TableNode P). Begins q z.prefix) is (Begins-trans q n.prefix w.moved.prefix begins (Begins-trans n.prefix (n.prefix ++ b ∷ []) w.moved.prefix (begins_append n.prefix (b ∷ [])) leaf_begins))))
            at;
      }

  pub moved_at : (s t : NodeTable P) (levels parent b i j : ℕ) (q : List ℕ) → IsTree s (suc levels) q parent → b < 256 → MovesNode s t parent b i j → SameAt s t (suc levels) q parent
  moved_at s t levels parent b i j q h byte w =
      let both : Some h.node ≡ Some w.node = sym h.here ∙ w.here in
      let same : h.node ≡ w.node = cc in
      moved_here s t levels parent b i j q w byte (subst (λ (n : TableNode P). Begins q n.prefix) same h.begins) (subst IsSound same h.sound) (subst (λ (n : TableNode P). AreChildren (λ r k. IsTree s levels r k) n.prefix n.children) same h.children)

  -- THE WHOLE TREE IS THE SAME, where a node on a key's path goes into another place
  pub moved : (s t : NodeTable P) (root : ℕ) (key : List ℕ) → AreBytes key → length key ≡ 8 → (above levels parent : ℕ) (q : List ℕ) → PathTo s root key above (suc levels) q parent → (h : IsTree s (suc levels) q parent) → Begins h.node.prefix key
      → (i j : ℕ) → MovesNode s t parent (next_byte h.node.prefix key) i j → SameTree s t root
  moved s t root key bytes full above levels parent q path h begins i j w =
      let on = goes_on h.node.prefix key begins bytes h.sound.short full in
      let x = moved_at s t levels parent (next_byte h.node.prefix key) i j q h on.byte w in
      let whole = along s root key bytes full t (λ es. es) (same_local (key_number key)) above (suc levels) parent q path x.same.tree x.same.pairs x.others in
      let lift = along_nodes s t root key above (suc levels) parent q path x.others in
      record {
        tree = whole.0;
        pairs = whole.1;
        nodes = lift.is ∙ ap (λ z. lift.before ++ (z ++ lift.after)) x.same.nodes ∙ sym lift.was;
      }

  -- where the byte of the key is known
  pub moves_on_path : (s t : NodeTable P) (root i byte j k : ℕ) (key : List ℕ) → GoesOnAt s root key i byte → MovesNode s t i byte j k → SameTree s t root
  moves_on_path s t root i byte j k key g w = at g.leads.levels g.leads.q g.leads.path g.leads.tree
    where
      at : (levels : ℕ) (q : List ℕ) → PathTo s root key g.above levels q i → IsTree s levels q i → SameTree s t root
      at zero q path h = absurd h
      at (suc levels) q path h =
          let both : Some g.node ≡ Some h.node = sym g.here ∙ h.here in
          let is : g.node ≡ h.node = cc in
          moved s t root key g.bytes g.full g.above levels i q path h (subst (λ (x : TableNode P). Begins x.prefix key) is g.begins) j k
          (subst (λ b. MovesNode s t i b j k) (g.next ∙ ap (λ (x : TableNode P). next_byte x.prefix key) is) w)
