-- What each end of an insertion does to the list of the tree's nodes.
use Rattle.std.proofs.Common.{Bor, ◌≡◌, ◌≢◌, ℕ, zero, suc, ◌+◌, ◌≤◌, List, [], ◌∷◌, ◌++◌, length, get_or, take, Some, None, IsSome, refl, ap, sym, subst, ◌∙◌, arith, inl, inr, ◌⊎◌, length-append, append-nil}
use Rattle.std.proofs.lemmas.List.{length-take}
use Rattle.std.proofs.lemmas.Bool.{lt-ltb, le-ltb, ne_eqb, cases_order}
use Rattle.std.proofs.Math.Seq.{take-append_seam}
use Rattle.node_table.proofs.BeginLaws.{after}
use Rattle.spec_map.specs.Map.{lookup, put}
use Rattle.spec_node.specs.Key.{AreBytes, Begins, IsFirstDifference}
use Rattle.node_table.specs.Table.{NodeTable, NodeInfo, node_at, node_info, nodes_of, nodes_at, IsTree}
use Rattle.node_table.specs.Shape.{Replaces, FillsLeaf, AddsLeaf, SplitsNode, with_one_more, grown_form, new_leaf, in_order}
use Rattle.node_base.specs.declared.base_node.NodeType.{NodeType}
use Rattle.node_base.specs.declared.base_node.NodeType.TheVariants.{N4}
use Rattle.spec_node.specs.TableNode.{TableNode, Child}
use Rattle.spec_node.specs.declared.child.Child.TheVariants.{Payload, Node}
use Rattle.spec_map.proofs.ByteMapLaws.{length-put_new, length-put_some}
use Rattle.node_table.proofs.KeyLaws.{goes_on, Begins-at_difference_left, Begins-at_difference_right, length-common}
use Rattle.node_table.proofs.TableLaws.{IsChild-found}
use Rattle.node_table.proofs.DownLaws.{KeepsOthers}
use Rattle.node_table.proofs.WriteLaws.{KeepsSlots, kept_children, AreChildren-put}
use Rattle.node_table.proofs.NodesLaws.{below, all_below, Replaces-trans, Replaces-all, down_nodes, kept_nodes, relevel_nodes, leaf_nodes, leaf_alone, put_among}
use Rattle.spec_node.specs.Key.{next_byte}
use Rattle.tree_path.specs.inner.Descent.{PathTo, EndsAt, Differs, Absent, Present, EndPlace}
use Rattle.tree_path.specs.inner.Root.{depth}
use Rattle.tree_edit.specs.inner.Writes.{SameElsewhere, WritesChild, IsLeafOf, IsStoredFor, Adds, Splits}
use Rattle.tree_path.proofs.PathEndLaws.{ends_in}
use Rattle.tree_edit.proofs.InfoLaws.{nodes-same}
use Rattle.tree_edit.proofs.InsertLaws.{keeps_others, leaf_here}

info-same : (e p q : List ℕ) (f g : NodeType) (a b : ℕ) → p ≡ q → f ≡ g → a ≡ b → ◌≡◌ {A = NodeInfo} (record { edge = e; prefix = p; form = f; count = a }) (record { edge = e; prefix = q; form = g; count = b })
info-same e p q f g a b x y z = rw (x, y, z) refl

pub begins_seven : (p key : List ℕ) → Begins p key → length p ≡ 7 → p ≡ take 7 key
begins_seven p key h seven =
    let t : take (length p) key ≡ p = let x = after h in rw x.is (take-append_seam p x.rest) in
    sym t ∙ ap (λ n. take n key) seven

pub alone : (old new gone come : List NodeInfo) → old ≡ gone → new ≡ come → Replaces old new gone come
alone old new gone come e f = record { before = []; after = []; was = e ∙ sym (append-nil gone); is = f ∙ sym (append-nil come) }

module _ {P : Type 0} (s t : NodeTable P) (root : ℕ) (key : List ℕ) where
  abbrev all_old : List NodeInfo
  all_old = nodes_at s depth [] root

  abbrev all_new : List NodeInfo
  all_new = nodes_at t depth [] root

  pub along_nodes : (above levels slot : ℕ) (q : List ℕ) → PathTo s root key above levels q slot → KeepsOthers q s t → Replaces all_old all_new (nodes_at s levels q slot) (nodes_at t levels q slot)
  along_nodes zero levels slot q path others = rw (path.0, path.1, path.2) (Replaces-all (nodes_at s depth [] root) (nodes_at t depth [] root))
  along_nodes (suc above) levels slot q path others =
      let h = path.tree in
      let p = h.node.prefix in
      let d = down_nodes s t levels path.parent_q path.parent (next_byte p key) slot h path.found (subst (λ r. KeepsOthers r s t) path.is others) in
      let up = along_nodes above (suc levels) path.parent path.parent_q path.path d.1 in
      Replaces-trans all_old all_new (nodes_at s (suc levels) path.parent_q path.parent) (nodes_at t (suc levels) path.parent_q path.parent) (nodes_at s levels q slot) (nodes_at t levels q slot) up
      (subst (λ r. Replaces (nodes_at s (suc levels) path.parent_q path.parent) (nodes_at t (suc levels) path.parent_q path.parent) (nodes_at s levels r slot) (nodes_at t levels r slot)) (sym path.is) d.0)

module _ {P : Type 0} (s t : NodeTable P) (root : ℕ) (key : List ℕ) (bytes : AreBytes key) (full : length key ≡ 8) (v : P) where
  abbrev old : List NodeInfo
  old = nodes_at s depth [] root

  abbrev new : List NodeInfo
  new = nodes_at t depth [] root

  -- the node has one payload more
  pub record FillsAt (n : TableNode P) : Type 0 where
    pub seven : length n.prefix ≡ 7
    pub shape : FillsLeaf old key new
    pub form : shape.leaf.form ≡ n.form
    pub count : shape.leaf.count ≡ length n.children

  -- the node has a new leaf below it
  pub record AddsAt (n : TableNode P) : Type 0 where
    pub inner : length n.prefix ≢ 7
    pub shape : AddsLeaf old key new
    pub form : shape.node.form ≡ n.form
    pub count : shape.node.count ≡ length n.children

  leaf_info : (r : List ℕ) (l : TableNode P) → IsLeafOf l key v → node_info r l ≡ new_leaf r key
  leaf_info r l x = info-same r l.prefix (take 7 key) l.form N4 (length l.children) 1 x.prefix x.form (ap length x.children)

  -- the leaf of this key, below these bytes of it
  leaf_there : (levels : ℕ) (r : List ℕ) (j : ℕ) (l : TableNode P) → Begins r key → length r ≤ 7 → 8 ≤ length r + levels → node_at t j ≡ Some l → IsLeafOf l key v → nodes_at t levels r j ≡ new_leaf r key ∷ []
  leaf_there levels r j l begins short enough there is_leaf =
      let x = leaf_here s t root key bytes full v r j l begins short there is_leaf in
      let seven : length l.prefix ≡ 7 = ap length is_leaf.prefix ∙ length-take 7 key ∙ omega (arith, full) in
      relevel_nodes t (suc zero) levels r j x.0 enough ∙ leaf_alone t (suc zero) r j l x.0 there seven ∙ ap (λ i. i ∷ []) (leaf_info r l is_leaf)

  module _ (above levels slot : ℕ) (q : List ℕ) (path : PathTo s root key above (suc levels) q slot) (h : IsTree s (suc levels) q slot) (deep : above ≤ length q) (sum : above + suc levels ≡ 8) (keeps : KeepsSlots slot s t) where
    abbrev p : List ℕ
    p = h.node.prefix

    abbrev es : List (ℕ × Child P)
    es = h.node.children

    lift : Replaces old new (nodes_at s (suc levels) q slot) (nodes_at t (suc levels) q slot)
    lift = along_nodes s t root key above (suc levels) slot q path (keeps_others s t root key bytes full v levels q slot h keeps)

    longer : length q ≤ length p
    longer = let long = simp length-append at (ap length (after h.begins).is) in omega (arith, long)

    more_info : (b : ℕ) (c : Child P) (m : TableNode P) → m.prefix ≡ p → m.children ≡ put es b c → m.form ≡ grown_form h.node.form (length es) → lookup es b ≡ None → node_info q m ≡ with_one_more (node_info q h.node)
    more_info b c m e f g none =
        info-same q m.prefix p m.form (grown_form h.node.form (length es)) (length m.children) (length es + 1) e g (ap length f ∙ length-put_new 0 256 es b c h.sound.ordered none)

    add_here : (c : Child P) (m : TableNode P) → Begins p key → lookup es (next_byte p key) ≡ None → node_at t slot ≡ Some m → m.prefix ≡ p → m.children ≡ put es (next_byte p key) c → m.form ≡ grown_form h.node.form (length es)
        → IsStoredFor t p key v c → FillsAt h.node ⊎ AddsAt h.node
    add_here (Payload w) m begins none there e f g at_key =
        let b = next_byte p key in
        let kept = kept_children s t levels slot h.node h.here keeps es h.children in
        let all = AreChildren-put (λ r j. IsTree t levels r j) p es b (Payload w) kept.0 at_key.0 in
        let empty = leaf_nodes t levels p (put es b (Payload w)) at_key.0 all in
        let is : nodes_at t (suc levels) q slot ≡ with_one_more (node_info q h.node) ∷ [] =
        rw there (ap (λ x. node_info q m ∷ x) (nodes-same (below t levels) m.prefix p m.children (put es b (Payload w)) e f ∙ empty)) ∙ ap (λ i. i ∷ []) (more_info b (Payload w) m e f g none) in
        let was = leaf_alone s (suc levels) q slot h.node h h.here at_key.0 in
        let shape : FillsLeaf old key new = record {
          leaf = node_info q h.node;
          prefix = begins_seven p key begins at_key.0;
          replaces = Replaces-trans old new (nodes_at s (suc levels) q slot) (nodes_at t (suc levels) q slot) _ _ lift (alone (nodes_at s (suc levels) q slot) (nodes_at t (suc levels) q slot) _ _ was is);
        } in
        inl (record { seven = at_key.0; shape = shape; form = refl; count = refl })
    add_here (Node j) m begins none there e f g at_key =
        let b = next_byte p key in
        let on = goes_on p key begins bytes h.sound.short full in
        let one = length-append p (b ∷ []) in
        let kept = kept_children s t levels slot h.node h.here keeps es h.children in
        let same = kept_nodes s t levels slot h.node h.here keeps es h.children in
        let among = put_among t levels p 0 es b j h.sound.ordered kept.0 none in
        let leaf = leaf_there levels (p ++ b ∷ []) j at_key.1.0 on.begins (omega (arith, one, at_key.0, h.sound.short)) (omega (arith, one, longer, deep, sum)) at_key.1.1 at_key.1.2 in
        let is : nodes_at t (suc levels) q slot ≡ with_one_more (node_info q h.node) ∷ (among.left ++ (new_leaf (p ++ b ∷ []) key ∷ among.right)) =
        rw there (ap (λ x. node_info q m ∷ x) (nodes-same (below t levels) m.prefix p m.children (put es b (Node j)) e f ∙ among.is ∙ ap (λ x. among.left ++ (x ++ among.right)) leaf))
        ∙ ap (λ i. i ∷ (among.left ++ (new_leaf (p ++ b ∷ []) key ∷ among.right))) (more_info b (Node j) m e f g none) in
        let was : nodes_at s (suc levels) q slot ≡ node_info q h.node ∷ (among.left ++ among.right) = rw h.here (ap (λ x. node_info q h.node ∷ x) (sym same ∙ among.was)) in
        let shape : AddsLeaf old key new = record {
          node = node_info q h.node;
          begins = begins;
          inner = omega (arith, at_key.0, h.sound.short);
          left = among.left;
          right = among.right;
          smaller = among.smaller;
          greater = among.greater;
          replaces = Replaces-trans old new (nodes_at s (suc levels) q slot) (nodes_at t (suc levels) q slot) _ _ lift (alone (nodes_at s (suc levels) q slot) (nodes_at t (suc levels) q slot) _ _ was is);
        } in
        inr (record { inner = at_key.0; shape = shape; form = refl; count = refl })

    split_here : (at : ℕ) → IsFirstDifference p key at → Begins q key → Splits s t slot key at v → SplitsNode old key new
    split_here at d q_key x =
        let both : Some x.node ≡ Some h.node = sym x.here ∙ h.here in
        let is_node : x.node ≡ h.node = cc in
        let c = take at key in
        let a = get_or p at 0 in
        let b = get_or key at 0 in
        let length_c : length c ≡ at = length-take at key ∙ omega (arith, d.inside, h.sound.short, full) in
        let one_a = length-append c (a ∷ []) in
        let one_b = length-append c (b ∷ []) in
        let q_short = length-common p key q at d h.begins q_key in
        let kept = kept_children s t levels slot h.node h.here keeps es h.children in
        let same = kept_nodes s t levels slot h.node h.here keeps es h.children in
        let lower_there : node_at t x.lower_slot ≡ Some h.node = subst (λ n. node_at t x.lower_slot ≡ Some n) is_node x.lower_there in
        let children_are : x.upper.children ≡ put ((a, Node x.lower_slot) ∷ []) b (Node x.leaf_slot) = subst (λ (n : TableNode P). x.upper.children ≡ put ((get_or n.prefix at 0, Node x.lower_slot) ∷ []) b (Node x.leaf_slot)) is_node x.children_are in
        let left : Begins (c ++ a ∷ []) p = subst (λ y. Begins (y ++ a ∷ []) p) d.same_before (Begins-at_difference_left p key at d) in
        let right : Begins (c ++ b ∷ []) key = subst (λ y. Begins (y ++ b ∷ []) key) d.same_before (Begins-at_difference_right p key at d (omega (arith, d.inside, h.sound.short, full))) in
        let lower_tree : IsTree t (suc levels) (c ++ a ∷ []) x.lower_slot = record { node = h.node; here = lower_there; begins = left; sound = h.sound; children = kept.0 } in
        let xs = record { edge = c ++ a ∷ []; prefix = p; form = h.node.form; count = length es } ∷ nodes_of (below s levels) p es in
        let ys = new_leaf (c ++ b ∷ []) key ∷ [] in
        let lower : nodes_at t levels (c ++ a ∷ []) x.lower_slot ≡ xs =
        relevel_nodes t (suc levels) levels (c ++ a ∷ []) x.lower_slot lower_tree (omega (arith, one_a, length_c, q_short, deep, sum)) ∙ rw lower_there (ap (λ z. node_info (c ++ a ∷ []) h.node ∷ z) same) in
        let leaf : nodes_at t levels (c ++ b ∷ []) x.leaf_slot ≡ ys =
        leaf_there levels (c ++ b ∷ []) x.leaf_slot x.leaf right (omega (arith, one_b, length_c, d.inside, h.sound.short)) (omega (arith, one_b, length_c, q_short, deep, sum)) x.leaf_there x.is_leaf in
        let two = two_children c a b x.lower_slot x.leaf_slot xs ys d.differ lower leaf in
        let top : node_info q x.upper ≡ record { edge = q; prefix = c; form = N4; count = 2 } = info-same q x.upper.prefix c x.upper.form N4 (length x.upper.children) 2 x.prefix_is x.form_is (ap length children_are ∙ two.0) in
        let is : nodes_at t (suc levels) q slot ≡ record { edge = q; prefix = c; form = N4; count = 2 } ∷ in_order a xs b ys =
        rw x.upper_there (ap (λ z. node_info q x.upper ∷ z) (nodes-same (below t levels) x.upper.prefix c x.upper.children (put ((a, Node x.lower_slot) ∷ []) b (Node x.leaf_slot)) x.prefix_is children_are ∙ two.1))
        ∙ ap (λ i. i ∷ in_order a xs b ys) top in
        let was : nodes_at s (suc levels) q slot ≡ node_info q h.node ∷ nodes_of (below s levels) p es = rw h.here refl in
        record {
          node = node_info q h.node;
          below = nodes_of (below s levels) p es;
          at = at;
          begins = q_key;
          differs = d;
          all_below = all_below s levels p es h.children;
          replaces = Replaces-trans old new (nodes_at s (suc levels) q slot) (nodes_at t (suc levels) q slot) _ _ lift (alone (nodes_at s (suc levels) q slot) (nodes_at t (suc levels) q slot) _ _ was is);
        }
      where
        two_children : (c : List ℕ) (a b i j : ℕ) (xs ys : List NodeInfo) → a ≢ b → nodes_at t levels (c ++ a ∷ []) i ≡ xs → nodes_at t levels (c ++ b ∷ []) j ≡ ys
            → (length (put {V = Child P} ((a, Node i) ∷ []) b (Node j)) ≡ 2) × (nodes_of (below t levels) c (put {V = Child P} ((a, Node i) ∷ []) b (Node j)) ≡ in_order a xs b ys)
        two_children c a b i j xs ys other e f =
            elim (cases_order a b) [
              | inl same ↦ absurd (other same)
              | inr (inl less) ↦ rw (lt-ltb a b less) (refl, rw (e, f) (ap (λ z. xs ++ z) (append-nil ys)))
              | inr (inr more) ↦ rw (le-ltb a b (omega arith), ne_eqb a b other) (refl, rw (e, f) (ap (λ z. ys ++ z) (append-nil xs)))
            ]

  -- a payload in place of one: the nodes are unchanged
  pub change_shape : (place : EndPlace P) → EndsAt s root key place → (b : ℕ) (w : Bor P) → place.end ≡ Present b w → SameElsewhere place.slot s t → WritesChild s t place.slot b (Payload v) → new ≡ old
  change_shape place a b w is keeps writes =
      let o = ends_in s root key place a (Present b w) is in
      let h = o.tree in
      let p = h.node.prefix in
      let es = h.node.children in
      let x = writes h.node h.here in
      let keeps' : KeepsSlots place.slot s t = λ i m apart there. keeps i apart ∙ there in
      let seven : length p ≡ 7 = IsChild-found s o.levels p es b (Payload w.now) h.children o.end.2 in
      let kept = kept_children s t o.levels place.slot h.node h.here keeps' es h.children in
      let all = AreChildren-put (λ r j. IsTree t o.levels r j) p es b (Payload v) kept.0 seven in
      let empty = leaf_nodes t o.levels p (put es b (Payload v)) seven all in
      let present : IsSome (lookup es b) = rw o.end.2 refl in
      let info : node_info o.q x.0 ≡ node_info o.q h.node =
      info-same o.q x.0.prefix p x.0.form h.node.form (length x.0.children) (length es) x.2 x.4 (ap length x.3 ∙ length-put_some 0 256 es b (Payload v) h.sound.ordered present) in
      let now : nodes_at t (suc o.levels) o.q place.slot ≡ node_info o.q h.node ∷ [] =
      rw x.1 (ap (λ z. node_info o.q x.0 ∷ z) (nodes-same (below t o.levels) x.0.prefix p x.0.children (put es b (Payload v)) x.2 x.3 ∙ empty)) ∙ ap (λ i. i ∷ []) info in
      let was = leaf_alone s (suc o.levels) o.q place.slot h.node h h.here seven in
      let r = along_nodes s t root key place.above (suc o.levels) place.slot o.q o.path (keeps_others s t root key bytes full v o.levels o.q place.slot h keeps') in
      r.is ∙ ap (λ z. r.before ++ (z ++ r.after)) (now ∙ sym was) ∙ sym r.was

  pub add_at : (place : EndPlace P) (a : EndsAt s root key place) (b : ℕ) → place.end ≡ Absent b → Adds s t place.slot key b v → FillsAt a.node ⊎ AddsAt a.node
  add_at place a b is adds =
      let o = ends_in s root key place a (Absent b) is in
      let h = o.tree in
      let x = adds.1 h.node h.here in
      subst (λ m. FillsAt m ⊎ AddsAt m) (sym o.is)
      (add_here place.above o.levels place.slot o.q o.path h o.deep o.sum adds.0 x.0 x.1 o.end.1 (subst (λ y. lookup h.node.children y ≡ None) o.end.0 o.end.2) x.2 x.3 (subst (λ y. x.1.children ≡ put h.node.children y x.0) o.end.0 x.4) x.5 x.6)

  pub add_shape : (place : EndPlace P) → EndsAt s root key place → (b : ℕ) → place.end ≡ Absent b → Adds s t place.slot key b v → FillsLeaf old key new ⊎ (AddsLeaf old key new ⊎ SplitsNode old key new)
  add_shape place a b is adds =
      elim (add_at place a b is adds) [
        | inl x ↦ inl x.shape
        | inr x ↦ inr (inl x.shape)
      ]

  pub split_at : (place : EndPlace P) → EndsAt s root key place → (at : ℕ) → place.end ≡ Differs at → Splits s t place.slot key at v → SplitsNode old key new
  split_at place a at is x =
      let o = ends_in s root key place a (Differs at) is in
      split_here place.above o.levels place.slot o.q o.path o.tree o.deep o.sum x.keeps at o.end o.begins x

  pub split_shape : (place : EndPlace P) → EndsAt s root key place → (at : ℕ) → place.end ≡ Differs at → Splits s t place.slot key at v → FillsLeaf old key new ⊎ (AddsLeaf old key new ⊎ SplitsNode old key new)
  split_shape place a at is x = inr (inr (split_at place a at is x))
