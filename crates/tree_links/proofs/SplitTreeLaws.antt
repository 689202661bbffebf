-- The tree after a split is that after a split in place: then the new node and the old one go into other places.
use Rattle.std.proofs.Common.{◌≡◌, ◌≢◌, ℕ, zero, suc, ◌+◌, ◌-◌, ◌<◌, ◌≤◌, List, [], ◌∷◌, ◌++◌, length, take, replicate, get_or, Option, Some, None, refl, ap, sym, subst, ◌∙◌, arith, inl, inr, length-append}
use Rattle.std.proofs.lemmas.Bool.{le-ltb, lt-ltb, eq-eqb, ne_eqb, cases_order, cases_eq}
use Rattle.std.proofs.lemmas.List.{length-replicate, length-take}
use Rattle.spec_map.specs.Map.{lookup, put}
use Rattle.spec_map.proofs.MapLaws.{lookup-put_same, lookup-put_other}
use Rattle.spec_node.specs.Key.{AreBytes, Begins, next_byte}
use Rattle.spec_node.specs.TableNode.{TableNode}
use Rattle.node_table.specs.Table.{IsSound, NodeTable, node_at, IsTree}
use Rattle.spec_node.specs.declared.child.Child.TheVariants.{Node}
use Rattle.node_table.proofs.BeginLaws.{begins_append}
use Rattle.node_table.proofs.DownLaws.{KeepsOthers, Begins-trans}
use Rattle.node_table.proofs.KeyLaws.{AreBytes-append, Begins-at_difference_left}
use Rattle.node_table.proofs.TableLaws.{IsChild-found}
use Rattle.tree_path.specs.inner.Descent.{PathTo, LeadsTo}
use Rattle.tree_path.specs.inner.Root.{HasTree}
use Rattle.tree_path.proofs.PathEndLaws.{leads_step}
use Rattle.tree_links.specs.MovesNode.{MovesNode}
use Rattle.tree_links.specs.SameTree.{SameTree, GoesOnAt}
use Rattle.tree_links.specs.SeenTable.{leaf_of}
use Rattle.tree_links.specs.SplitsChild.{SplitsChild, upper_of}
use Rattle.tree_links.specs.SplitsTree.{SplitsInPlace, SplitsTree}
use Rattle.tree_links.proofs.LeadLaws.{next_is, parent_of, leads_kept, path_other}
use Rattle.tree_links.proofs.TreeLaws.{leaf_under, not_longer, moves_on_path}

-- a table with one place set
abbrev with_slot : {X : Type 0} → List (Option X) → ℕ → Option X → List (Option X)
with_slot [] zero x = x ∷ []
with_slot [] (suc i) x = None ∷ with_slot [] i x
with_slot (y ∷ t) zero x = x ∷ t
with_slot (y ∷ t) (suc i) x = y ∷ with_slot t i x

-- nothing is past a table's end
past : {X : Type 0} (t : List (Option X)) (i : ℕ) → length t ≤ i → get_or t i None ≡ None
past [] i far = refl
past (x ∷ t) zero far = absurd (omega (arith, far))
past (x ∷ t) (suc i) far = past t i (omega (arith, far))

module _ {P : Type 0} where
  at_set : (t : NodeTable P) (i : ℕ) (x : Option (TableNode P)) → node_at (with_slot t i x) i ≡ x
  at_set [] zero x = refl
  at_set [] (suc i) x = at_set [] i x
  at_set (y ∷ t) zero x = refl
  at_set (y ∷ t) (suc i) x = at_set t i x

  off_set : (t : NodeTable P) (i : ℕ) (x : Option (TableNode P)) (o : ℕ) → o ≢ i → node_at (with_slot t i x) o ≡ node_at t o
  off_set [] zero x zero other = absurd (other refl)
  off_set [] zero x (suc o) other = refl
  off_set [] (suc i) x zero other = refl
  off_set [] (suc i) x (suc o) other = off_set [] i x o (λ e. other (ap suc e))
  off_set (y ∷ t) zero x zero other = absurd (other refl)
  off_set (y ∷ t) zero x (suc o) other = refl
  off_set (y ∷ t) (suc i) x zero other = refl
  off_set (y ∷ t) (suc i) x (suc o) other = off_set t i x o (λ e. other (ap suc e))

  -- a place with a node isn't one without
  fresh : (r : NodeTable P) (o n : ℕ) (m : TableNode P) → node_at r o ≡ None → node_at r n ≡ Some m → o ≢ n
  fresh r o n m none some = λ e. let clash : ◌≡◌ {A = Option (TableNode P)} None (Some m) = sym none ∙ ap (λ y. node_at r y) e ∙ some in cc

-- two children in the order of their bytes, of which the first is put anew
two_put : {C : Type 0} (a c : ℕ) (x y z : C) → a ≢ c → put (put ((a, x) ∷ []) c z) a y ≡ put ((a, y) ∷ []) c z
two_put a c x y z apart =
    elim (cases_order a c) [
      | inl same ↦ absurd (apart same)
      | inr (inl less) ↦ rw (lt-ltb a c less, le-ltb a a (omega arith), eq-eqb a a refl) refl
      | inr (inr more) ↦ rw (le-ltb a c (omega arith), ne_eqb a c apart, lt-ltb c a more, le-ltb a a (omega arith), eq-eqb a a refl) refl
    ]

zeros_bytes : (n : ℕ) → AreBytes (replicate n 0)
zeros_bytes zero = tt
zeros_bytes (suc n) = (omega arith, zeros_bytes n)

module _ {P : Type 0} (s t : NodeTable P) (p b old k : ℕ) (key : List ℕ) (at : ℕ) (v : P) (h : SplitsChild s t p b old k key at v) where
  abbrev a : ℕ
  a = get_or h.child.prefix at 0

  abbrev c : ℕ
  c = get_or key at 0

  -- where the old node is meanwhile: past all that is there
  abbrev z : ℕ
  z = suc (length s + (k + h.leaf))

  abbrev upper : TableNode P
  upper = upper_of h.child.prefix key at z h.leaf

  abbrev leaf : TableNode P
  leaf = leaf_of key v

  s_z : node_at s z ≡ None
  s_z = past s z (omega arith)

  old_leaf : old ≢ h.leaf
  old_leaf e = fresh s h.leaf old h.child h.leaf_free h.was (sym e)

  old_z : old ≢ z
  old_z e = fresh s z old h.child s_z h.was (sym e)

  leaf_z : h.leaf ≢ z
  leaf_z = omega arith

  -- IN PLACE
  abbrev with_lower : NodeTable P
  with_lower = with_slot s z (Some h.child)

  abbrev with_leaf : NodeTable P
  with_leaf = with_slot with_lower h.leaf (Some leaf)

  abbrev g : NodeTable P
  g = with_slot with_leaf old (Some upper)

  g_old : node_at g old ≡ Some upper
  g_old = at_set with_leaf old (Some upper)

  g_leaf : node_at g h.leaf ≡ Some leaf
  g_leaf = off_set with_leaf old (Some upper) h.leaf (λ e. old_leaf (sym e)) ∙ at_set with_lower h.leaf (Some leaf)

  g_z : node_at g z ≡ Some h.child
  g_z = off_set with_leaf old (Some upper) z (λ e. old_z (sym e)) ∙ off_set with_lower h.leaf (Some leaf) z (λ e. leaf_z (sym e)) ∙ at_set s z (Some h.child)

  g_else : (o : ℕ) → o ≢ old → o ≢ h.leaf → o ≢ z → node_at g o ≡ node_at s o
  g_else o x y q = off_set with_leaf old (Some upper) o x ∙ off_set with_lower h.leaf (Some leaf) o y ∙ off_set s z (Some h.child) o q

  g_keeps : (o : ℕ) (m : TableNode P) → o ≢ old → node_at s o ≡ Some m → node_at g o ≡ Some m
  g_keeps o m far here = g_else o far (λ e. fresh s h.leaf o m h.leaf_free here (sym e)) (λ e. fresh s z o m s_z here (sym e)) ∙ here

  in_place : SplitsInPlace s g old key at v
  in_place = record { child = h.child; lower = z; leaf = h.leaf; was = h.was; upper_is = g_old; lower_is = g_z; leaf_is = g_leaf; keeps = g_keeps }

  module _ (root : ℕ) (w : GoesOnAt s root key p b) where
    -- what is known of the two nodes by the path
    record Spot : Type 0 where
      levels : ℕ
      q : List ℕ
      path : PathTo s root key w.above (suc levels) q p
      begins : Begins h.node.prefix key
      next : b ≡ next_byte h.node.prefix key
      from : Begins q h.node.prefix
      short : length h.node.prefix ≤ 7
      deeper : Begins (h.node.prefix ++ b ∷ []) h.child.prefix
      sound : IsSound h.child

    child_sound : (levels : ℕ) (q : List ℕ) → IsTree s levels q old → IsSound h.child
    child_sound zero q tree = absurd tree
    child_sound (suc levels) q tree =
        let both : Some tree.node ≡ Some h.child = sym tree.here ∙ h.was in
        let is : tree.node ≡ h.child = cc in
        subst IsSound is tree.sound

    spot : Spot
    spot = opened w.leads.levels w.leads.q w.leads.path w.leads.tree
      where
        both : Some w.node ≡ Some h.node
        both = sym w.here ∙ h.here

        same : w.node ≡ h.node
        same = cc

        opened : (levels : ℕ) (q : List ℕ) → PathTo s root key w.above levels q p → IsTree s levels q p → Spot
        opened zero q path tree = absurd tree
        opened (suc levels) q path tree =
            let two : Some tree.node ≡ Some h.node = sym tree.here ∙ h.here in
            let is : tree.node ≡ h.node = cc in
            let found : lookup tree.node.children b ≡ Some (Node old) = subst (λ (n : TableNode P). lookup n.children b ≡ Some (Node old)) (sym is) h.found in
            let child : IsTree s levels (tree.node.prefix ++ b ∷ []) old = IsChild-found s levels tree.node.prefix tree.node.children b (Node old) tree.children found in
            let deeper : Begins (tree.node.prefix ++ b ∷ []) h.child.prefix = leaf_under s levels (tree.node.prefix ++ b ∷ []) old child h.child h.was in
            record {
              levels = levels;
              q = q;
              path = path;
              begins = subst (λ (n : TableNode P). Begins n.prefix key) same w.begins;
              next = w.next ∙ ap (λ (n : TableNode P). next_byte n.prefix key) same;
              from = subst (λ (n : TableNode P). Begins q n.prefix) is tree.begins;
              short = subst (λ (n : TableNode P). length n.prefix ≤ 7) is tree.sound.short;
              deeper = subst (λ (n : TableNode P). Begins (n.prefix ++ b ∷ []) h.child.prefix) is deeper;
              sound = child_sound levels (tree.node.prefix ++ b ∷ []) child;
            }

    n : TableNode P
    n = h.node

    old_p : old ≢ p
    old_p e =
        let both : Some h.child ≡ Some h.node = sym h.was ∙ ap (λ y. node_at s y) e ∙ h.here in
        let same : h.child ≡ h.node = cc in
        not_longer h.child h.node.prefix b spot.deeper (ap (λ (x : TableNode P). x.prefix) same)

    early : at < 7
    early = omega (arith, h.differs.inside, spot.sound.short)

    -- the two new nodes differ in their prefixes
    k_leaf : k ≢ h.leaf
    k_leaf e =
        let both : Some (upper_of h.child.prefix key at h.lower h.leaf) ≡ Some leaf = sym h.upper_is ∙ ap (λ y. node_at t y) e ∙ h.leaf_is in
        let same : upper_of h.child.prefix key at h.lower h.leaf ≡ leaf = cc in
        let long : length (take at key) ≡ length (take 7 key) = ap (λ (x : TableNode P). length x.prefix) same in
        omega (arith, long, length-take at key, length-take 7 key, early, w.full)

    k_old : k ≢ old
    k_old = fresh s k old h.child h.upper_free h.was

    k_p : k ≢ p
    k_p = fresh s k p h.node h.upper_free h.here

    k_z : k ≢ z
    k_z = omega arith

    g_p : node_at g p ≡ Some h.node
    g_p = g_keeps p h.node (λ e. old_p (sym e)) h.here

    g_k : node_at g k ≡ None
    g_k = g_else k k_old k_leaf k_z ∙ h.upper_free

    -- THEN the new node goes into its place
    abbrev parent_then : TableNode P
    parent_then = record h.node { children = put h.node.children b (Node k) }

    abbrev without_old : NodeTable P
    without_old = with_slot g old None

    abbrev with_upper : NodeTable P
    with_upper = with_slot without_old k (Some upper)

    abbrev m : NodeTable P
    m = with_slot with_upper p (Some parent_then)

    m_p : node_at m p ≡ Some parent_then
    m_p = at_set with_upper p (Some parent_then)

    m_k : node_at m k ≡ Some upper
    m_k = off_set with_upper p (Some parent_then) k k_p ∙ at_set without_old k (Some upper)

    m_old : node_at m old ≡ None
    m_old = off_set with_upper p (Some parent_then) old old_p ∙ off_set without_old k (Some upper) old (λ e. k_old (sym e)) ∙ at_set g old None

    m_else : (o : ℕ) → o ≢ p → o ≢ k → o ≢ old → node_at m o ≡ node_at g o
    m_else o x y q = off_set with_upper p (Some parent_then) o x ∙ off_set without_old k (Some upper) o y ∙ off_set g old None o q

    moves_upper : MovesNode g m p b old k
    moves_upper = record {
      node = h.node;
      moved = upper;
      here = g_p;
      found = h.found;
      was = g_old;
      there = m_p;
      is = m_k;
      keeps = λ o x far off here. m_else o far (λ e. fresh g k o x g_k here (sym e)) off ∙ here;
    }

    -- AND the old one, too
    z_p : z ≢ p
    z_p = fresh s z p h.node s_z h.here

    m_z : node_at m z ≡ Some h.child
    m_z = m_else z z_p (λ e. k_z (sym e)) (λ e. old_z (sym e)) ∙ g_z

    m_leaf : node_at m h.leaf ≡ Some leaf
    m_leaf = m_else h.leaf (fresh s h.leaf p h.node h.leaf_free h.here) (λ e. k_leaf (sym e)) (λ e. old_leaf (sym e)) ∙ g_leaf

    t_k : node_at t k ≡ Some (record upper { children = put upper.children a (Node h.lower) })
    t_k = h.upper_is ∙ ap (λ es. Some (record upper { children = es })) (sym (two_put a c (Node z) (Node h.lower) (Node h.leaf) h.differs.differ))

    moves_lower : MovesNode m t k a z h.lower
    moves_lower = record {
      node = upper;
      moved = h.child;
      here = m_k;
      found = lookup-put_other ((a, Node z) ∷ []) c (Node h.leaf) a h.differs.differ ∙ rw (eq-eqb a a refl) refl;
      was = m_z;
      there = t_k;
      is = h.lower_is;
      keeps = λ o x far off here.
          elim (cases_eq o p) [
            | inl top ↦ subst (λ y. node_at t y ≡ Some x) (sym top) (h.there ∙ sym m_p ∙ subst (λ y. node_at m y ≡ Some x) top here)
            | inr below ↦ elim (cases_eq o h.leaf) [
              | inl new ↦ subst (λ y. node_at t y ≡ Some x) (sym new) (h.leaf_is ∙ sym m_leaf ∙ subst (λ y. node_at m y ≡ Some x) new here)
              | inr was ↦
                  let not_old : o ≢ old = λ e. fresh m old o x m_old here (sym e) in
                  h.keeps o x below not_old (sym (g_else o not_old was off) ∙ sym (m_else o below far not_old) ∙ here)
            ]
          ];
    }

    -- what is above stays
    above_old : (o : ℕ) (x : TableNode P) → node_at s o ≡ Some x → (Begins spot.q x.prefix → ⊥) → o ≢ old
    above_old o x here not_below e =
        let both : Some h.child ≡ Some x = sym h.was ∙ subst (λ y. node_at s y ≡ Some x) e here in
        let is : h.child ≡ x = cc in
        not_below (subst (λ (y : TableNode P). Begins spot.q y.prefix) is
        (Begins-trans spot.q h.node.prefix h.child.prefix spot.from (Begins-trans h.node.prefix (h.node.prefix ++ b ∷ []) h.child.prefix (begins_append h.node.prefix (b ∷ [])) spot.deeper)))

    above_p : (o : ℕ) (x : TableNode P) → node_at s o ≡ Some x → (Begins spot.q x.prefix → ⊥) → o ≢ p
    above_p o x here not_below e =
        let both : Some h.node ≡ Some x = sym h.here ∙ subst (λ y. node_at s y ≡ Some x) e here in
        let is : h.node ≡ x = cc in
        not_below (subst (λ (y : TableNode P). Begins spot.q y.prefix) is spot.from)

    kept_g : KeepsOthers spot.q s g
    kept_g o x here not_below = g_keeps o x (above_old o x here not_below) here

    kept_m : KeepsOthers spot.q s m
    kept_m o x here not_below =
        m_else o (above_p o x here not_below) (λ e. fresh s k o x h.upper_free here (sym e)) (above_old o x here not_below) ∙ kept_g o x here not_below

    -- a key below the old node
    abbrev low_key : List ℕ
    low_key = h.child.prefix ++ replicate (8 - length h.child.prefix) 0

    low_bytes : AreBytes low_key
    low_bytes = AreBytes-append h.child.prefix (replicate (8 - length h.child.prefix) 0) spot.sound.bytes (zeros_bytes (8 - length h.child.prefix))

    low_full : length low_key ≡ 8
    low_full = length-append h.child.prefix (replicate (8 - length h.child.prefix) 0) ∙ omega (arith, length-replicate {A = ℕ} (8 - length h.child.prefix) 0, spot.sound.short)

    low_begins : Begins h.child.prefix low_key
    low_begins = begins_append h.child.prefix (replicate (8 - length h.child.prefix) 0)

    low_under : Begins (h.node.prefix ++ b ∷ []) low_key
    low_under = Begins-trans (h.node.prefix ++ b ∷ []) h.child.prefix low_key spot.deeper low_begins

    low_parent : Begins h.node.prefix low_key
    low_parent = Begins-trans h.node.prefix (h.node.prefix ++ b ∷ []) low_key (begins_append h.node.prefix (b ∷ [])) low_under

    same : HasTree g root → SameTree g t root
    same tree = record { tree = second.tree; pairs = second.pairs ∙ first.pairs; nodes = second.nodes ∙ first.nodes }
      where
        first : SameTree g m root
        first =
            let lead = leads_kept s root key w.bytes w.full g tree w.above (suc spot.levels) p spot.q spot.path kept_g in
            moves_on_path g m root p b old k key
            (record { bytes = w.bytes; full = w.full; above = w.above; parent = parent_of s root key w.bytes w.full w.above (suc spot.levels) spot.q p spot.path; leads = lead; node = h.node; here = g_p; begins = spot.begins; next = spot.next })
            moves_upper

        low_path : PathTo s root low_key w.above (suc spot.levels) spot.q p
        low_path = path_other s root key low_key low_bytes low_full w.above (suc spot.levels) p spot.q spot.path (Begins-trans spot.q h.node.prefix low_key spot.from low_parent)

        low_lead : LeadsTo m root low_key w.above p (parent_of s root low_key low_bytes low_full w.above (suc spot.levels) spot.q p low_path)
        low_lead = leads_kept s root low_key low_bytes low_full m first.tree w.above (suc spot.levels) p spot.q low_path kept_m

        to : lookup (put h.node.children b (Node k)) (next_byte h.node.prefix low_key) ≡ Some (Node k)
        to =
            subst (λ x. lookup (put h.node.children b (Node k)) x ≡ Some (Node k)) (next_is h.node.prefix low_key b low_under low_bytes spot.short low_full)
            (lookup-put_same h.node.children b (Node k))

        low_here : LeadsTo m root low_key (w.above + 1) k p
        low_here = leads_step m root low_key w.above p (parent_of s root low_key low_bytes low_full w.above (suc spot.levels) spot.q p low_path) parent_then low_lead m_p low_parent low_bytes low_full k to

        turn : Begins (take at key ++ a ∷ []) low_key
        turn =
            subst (λ r. Begins (r ++ a ∷ []) low_key) h.differs.same_before
            (Begins-trans (take at h.child.prefix ++ a ∷ []) h.child.prefix low_key (Begins-at_difference_left h.child.prefix key at h.differs) low_begins)

        second : SameTree m t root
        second =
            moves_on_path m t root k a z h.lower low_key
            (record {
              bytes = low_bytes;
              full = low_full;
              above = w.above + 1;
              parent = p;
              leads = low_here;
              node = upper;
              here = m_k;
              begins = Begins-trans (take at key) (take at key ++ a ∷ []) low_key (begins_append (take at key) (a ∷ [])) turn;
              next = next_is (take at key) low_key a turn low_bytes (omega (arith, length-take at key, early)) low_full;
            })
            moves_lower

    -- THE TREE
    pub split_tree : SplitsTree s t root old key at v
    split_tree = record { between = g; splits = in_place; same = same }
