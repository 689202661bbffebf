-- In a tree: a copy takes a node's place, or a new node comes between a node and its child.
use Rattle.std.proofs.Common.{◌≡◌, ◌≢◌, ℕ, ◌<◌, ◌≤◌, List, [], ◌∷◌, ◌++◌, length, Some, None, ◌⊎◌, inl, inr, sym, subst, ap, ◌∙◌, arith}
use Rattle.std.proofs.lemmas.Bool.Decides.{eqb_tells}
use Rattle.spec_map.specs.Map.{lookup}
use Rattle.spec_node.specs.Key.{Begins, next_byte}
use Rattle.spec_node.specs.TableNode.{TableNode, Child}
use Rattle.spec_node.specs.declared.child.Child.TheVariants.{Payload, Node as below_at}
use Rattle.node_table.proofs.BeginLaws.{begins_itself}
use Rattle.olc_state.proofs.Options.{some_same, none_some}
use Rattle.olc_state.proofs.Ways.{length-begins, Begins-trans, longer-begins, slots_same}
use Rattle.olc_laws.proofs.Prefixes.{byte_after, begins_before}
use Rattle.olc_laws.proofs.Trees.{Tree, IsShaped, Under, Leads, IsTree}
use Rattle.olc_laws.proofs.Below.{Inside, ChangesChild, Relinks, relinks_tree, head_begins, head_inside, parent_off, parent_was_off, under_longer, leads_under, leads_longer}

module _ {M : Type 0} where
  -- A COPY with the same prefix and children takes a node's place, and the node is taken out
  pub record CopiesNode (f f' : Tree M) (p x q r : ℕ) (a a' b c : TableNode M) : Type 0 where
    pub at : ChangesChild f f' p x a a'
    pub old_child : lookup a.children x ≡ Some (below_at q)
    pub new_child : lookup a'.children x ≡ Some (below_at r)
    pub old : f q ≡ Some b
    pub gone : f' q ≡ None
    pub vacant : f r ≡ None
    pub new : f' r ≡ Some c
    pub prefix : c.prefix ≡ b.prefix
    pub children : c.children ≡ b.children
    pub others : (s : ℕ) → s ≢ p → s ≢ q → s ≢ r → f' s ≡ f s

  -- A MIDDLE NODE, whose one child is the previous node, takes that node's place
  pub record InsertsMiddle (f f' : Tree M) (p x q r y : ℕ) (a a' b m : TableNode M) : Type 0 where
    pub at : ChangesChild f f' p x a a'
    pub old_child : lookup a.children x ≡ Some (below_at q)
    pub new_child : lookup a'.children x ≡ Some (below_at r)
    pub old : f q ≡ Some b
    pub vacant : f r ≡ None
    pub new : f' r ≡ Some m
    pub begins : Inside a.prefix x m.prefix
    pub below : Inside m.prefix y b.prefix
    pub child : lookup m.children y ≡ Some (below_at q)
    pub only : (z c : ℕ) → lookup m.children z ≡ Some (below_at c) → z ≡ y
    pub shaped : IsShaped m
    pub others : (s : ℕ) → s ≢ p → s ≢ r → f' s ≡ f s

module _ {M : Type 0} {f f' : Tree M} {p x q r : ℕ} {a a' b c : TableNode M} (k : CopiesNode f f' p x q r a a' b c) (root : ℕ) (tree : IsTree f root) where
  copied_inside : Inside a.prefix x b.prefix
  copied_inside = head_inside k.at root tree q b k.old_child k.old

  -- a node there was there, or is the copy
  copied_or : (s : ℕ) (n : TableNode M) → f' s ≡ Some n → Inside a.prefix x n.prefix → (f s ≡ Some n) × (s ≢ q) ⊎ ((s ≡ r) × (n ≡ c))
  copied_or s n h i =
      elim (eqb_tells s r) [
        | inl e ↦ inr (e.1, some_same n c (sym (subst (λ z. f' z ≡ Some n) e.1 h) ∙ k.new))
        | inr far ↦
            let off : s ≢ q = λ e. none_some n (sym k.gone ∙ subst (λ z. f' z ≡ Some n) e h) in
            inl (sym (k.others s (parent_off k.at root tree s n h i) off far.1) ∙ h, off)
      ]

  -- a node there that is longer than the old one stays
  copied_stays : (d : ℕ) (u : TableNode M) → f d ≡ Some u → Inside a.prefix x u.prefix → length b.prefix < length u.prefix → f' d ≡ Some u
  copied_stays d u h i longer =
      k.others d (parent_was_off k.at root tree d u h i)
      (λ e. let even : length u.prefix ≡ length b.prefix = ap (λ (z : TableNode M). length z.prefix) (some_same u b (sym (subst (λ z. f z ≡ Some u) e h) ∙ k.old)) in omega (arith, even, longer))
      (λ e. none_some u (sym k.vacant ∙ subst (λ z. f z ≡ Some u) e h))
      ∙ h

  copied_begins : (s : ℕ) (n : TableNode M) → f' s ≡ Some n → Inside a.prefix x n.prefix → Begins b.prefix n.prefix
  copied_begins s n h i =
      elim (copied_or s n h i) [
        | inl was ↦ head_begins k.at root tree q b k.old_child k.old s n was.0 i
        | inr new ↦ subst (λ z. Begins b.prefix z) (sym (ap (λ (z : TableNode M). z.prefix) new.1 ∙ k.prefix)) (begins_itself b.prefix)
      ]

  -- a node of before that isn't above the old one has its children still
  copied_under : (s : ℕ) (n : TableNode M) → f s ≡ Some n → Inside a.prefix x n.prefix → Begins b.prefix n.prefix → (y d : ℕ) → lookup n.children y ≡ Some (below_at d) → Under f' n y d
  copied_under s n h i begins y d e =
      let u : Under f n y d = tree.under s n h y d e in
      let within : length b.prefix ≤ length n.prefix = length-begins b.prefix n.prefix begins in
      let longer : length n.prefix < length u.node.prefix = under_longer f root tree n y d u in
      let inside : Inside a.prefix x u.node.prefix = Begins-trans (a.prefix ++ x ∷ []) n.prefix u.node.prefix i (begins_before n.prefix y u.node.prefix u.begins) in
      record { node = u.node; here = copied_stays d u.node u.here inside (omega (arith, within, longer)); begins = u.begins }

  copied_leads : (s : ℕ) (n : TableNode M) (g : List ℕ) → f s ≡ Some n → Inside a.prefix x n.prefix → Begins b.prefix n.prefix → Leads f n g → Leads f' n g
  copied_leads s n g h i begins on =
      let within : length b.prefix ≤ length n.prefix = length-begins b.prefix n.prefix begins in
      let longer : length n.prefix < length on.node.prefix = leads_longer f root tree s n g h on in
      let inside : Inside a.prefix x on.node.prefix = Begins-trans (a.prefix ++ x ∷ []) n.prefix on.node.prefix i (begins_before n.prefix (next_byte n.prefix g) on.node.prefix (leads_under f root tree s n g h on)) in
      record { slot = on.slot; node = on.node; child = on.child; here = copied_stays on.slot on.node on.here inside (omega (arith, within, longer)); begins = on.begins }

  -- the copy has what the old node has
  copy_under : (y d : ℕ) → lookup c.children y ≡ Some (below_at d) → Under f' c y d
  copy_under y d e =
      let u : Under f' b y d = copied_under q b k.old copied_inside (begins_itself b.prefix) y d (subst (λ (z : List (ℕ × Child M)). lookup z y ≡ Some (below_at d)) k.children e) in
      record { node = u.node; here = u.here; begins = subst (λ z. Begins (z ++ y ∷ []) u.node.prefix) (sym k.prefix) u.begins }

  copy_leads : (g : List ℕ) → Leads f' b g → Leads f' c g
  copy_leads g on = record {
    slot = on.slot;
    node = on.node;
    child = subst (λ (z : List (ℕ × Child M)). lookup z (next_byte c.prefix g) ≡ Some (below_at on.slot)) (sym k.children)
        (subst (λ z. lookup b.children (next_byte z g) ≡ Some (below_at on.slot)) (sym k.prefix) on.child);
    here = on.here;
    begins = on.begins;
  }

  copy_shaped : IsShaped c
  copy_shaped =
      let was : IsShaped b = tree.shaped q b k.old in
      record {
        short = subst (λ z. length z ≤ 7) (sym k.prefix) was.short;
        bytes = rw k.prefix was.bytes;
        ordered = rw k.children was.ordered;
        leaf = λ y v e. ap length k.prefix ∙ was.leaf y v (subst (λ (z : List (ℕ × Child M)). lookup z y ≡ Some (Payload v)) k.children e);
      }

  copied_new_leads : (s o : ℕ) (n m : TableNode M) → f' s ≡ Some n → f' o ≡ Some m → Inside a.prefix x n.prefix → Inside a.prefix x m.prefix → Begins n.prefix m.prefix → (s ≡ o) ⊎ Leads f' n m.prefix
  copied_new_leads s o n m h g i j begins =
      elim (copied_or s n h i) [
        | inr new ↦ elim (copied_or o m g j) [
          | inr also ↦ inl (new.0 ∙ sym also.0)
          | inl old ↦
              elim (tree.leads q o b m k.old old.0 (copied_begins o m g j)) [
                | inl same ↦ absurd (old.1 (sym same))
                | inr on ↦ inr (subst (λ (z : TableNode M). Leads f' z m.prefix) (sym new.1) (copy_leads m.prefix (copied_leads q b m.prefix k.old copied_inside (begins_itself b.prefix) on)))
              ]
        ]
        | inl was ↦ elim (copied_or o m g j) [
          | inr also ↦
              let is : m.prefix ≡ b.prefix = ap (λ (z : TableNode M). z.prefix) also.1 ∙ k.prefix in
              let over : Begins b.prefix n.prefix = copied_begins s n h i in
              let to_b : Begins n.prefix b.prefix = subst (λ z. Begins n.prefix z) is begins in
              elim (tree.leads s q n b was.0 k.old to_b) [
                | inl same ↦ absurd (was.1 same)
                | inr on ↦
                    let within : length b.prefix ≤ length n.prefix = length-begins b.prefix n.prefix over in
                    let longer : length n.prefix < length on.node.prefix = leads_longer f root tree s n b.prefix was.0 on in
                    let short : length on.node.prefix ≤ length b.prefix = length-begins on.node.prefix b.prefix on.begins in
                    absurd (omega (arith, within, longer, short))
              ]
          | inl old ↦ elim (tree.leads s o n m was.0 old.0 begins) [
            | inl same ↦ inl same
            | inr on ↦ inr (copied_leads s n m.prefix was.0 i (copied_begins s n h i) on)
          ]
        ]
      ]

  copied_relinks : Relinks f f' p x a a'
  copied_relinks = record {
    at = k.at;
    stay = λ s n ne off h. k.others s ne
        (λ e. off (subst (λ (z : TableNode M). Inside a.prefix x z.prefix) (some_same b n (sym k.old ∙ subst (λ z. f z ≡ Some n) e h)) copied_inside))
        (λ e. none_some n (sym k.vacant ∙ subst (λ z. f z ≡ Some n) e h)) ∙ h;
    were = λ s n ne off h. sym (k.others s ne
        (λ e. none_some n (sym k.gone ∙ subst (λ z. f' z ≡ Some n) e h))
        (λ e. off (subst (λ z. Inside a.prefix x z) (sym k.prefix ∙ ap (λ (z : TableNode M). z.prefix) (some_same c n (sym k.new ∙ subst (λ z. f' z ≡ Some n) e h))) copied_inside))) ∙ h;
    child = λ d e. record {
      node = c;
      here = subst (λ z. f' z ≡ Some c) (slots_same r d (sym k.new_child ∙ e)) k.new;
      begins = subst (λ z. Inside a.prefix x z) (sym k.prefix) copied_inside;
    };
    leads = λ s n h i. record {
      slot = r;
      node = c;
      child = subst (λ z. lookup a'.children (next_byte z n.prefix) ≡ Some (below_at r)) (sym k.at.prefix) (subst (λ z. lookup a'.children z ≡ Some (below_at r)) (sym (byte_after a.prefix x n.prefix i)) k.new_child);
      here = k.new;
      begins = subst (λ z. Begins z n.prefix) (sym k.prefix) (copied_begins s n h i);
    };
    new_shaped = λ s n h i. elim (copied_or s n h i) [
      | inl was ↦ tree.shaped s n was.0
      | inr new ↦ subst (λ (z : TableNode M). IsShaped z) (sym new.1) copy_shaped
    ];
    new_under = λ s n h i y d e. elim (copied_or s n h i) [
      | inl was ↦ copied_under s n was.0 i (copied_begins s n h i) y d e
      | inr new ↦ subst (λ (z : TableNode M). Under f' z y d) (sym new.1) (copy_under y d (subst (λ (z : TableNode M). lookup z.children y ≡ Some (below_at d)) new.1 e))
    ];
    new_leads = copied_new_leads;
  }

  pub copied_tree : IsTree f' root
  copied_tree = relinks_tree copied_relinks root tree

module _ {M : Type 0} {f f' : Tree M} {p x q r y : ℕ} {a a' b m : TableNode M} (k : InsertsMiddle f f' p x q r y a a' b m) (root : ℕ) (tree : IsTree f root) where
  middle_inside : Inside a.prefix x b.prefix
  middle_inside = head_inside k.at root tree q b k.old_child k.old

  middle_or : (s : ℕ) (n : TableNode M) → f' s ≡ Some n → Inside a.prefix x n.prefix → (f s ≡ Some n) ⊎ ((s ≡ r) × (n ≡ m))
  middle_or s n h i =
      elim (eqb_tells s r) [
        | inl e ↦ inr (e.1, some_same n m (sym (subst (λ z. f' z ≡ Some n) e.1 h) ∙ k.new))
        | inr far ↦ inl (sym (k.others s (parent_off k.at root tree s n h i) far.1) ∙ h)
      ]

  middle_stays : (s : ℕ) (u : TableNode M) → f s ≡ Some u → Inside a.prefix x u.prefix → f' s ≡ Some u
  middle_stays s u h i = k.others s (parent_was_off k.at root tree s u h i) (λ e. none_some u (sym k.vacant ∙ subst (λ z. f z ≡ Some u) e h)) ∙ h

  middle_over : Begins m.prefix b.prefix
  middle_over = begins_before m.prefix y b.prefix k.below

  middle_begins : (s : ℕ) (n : TableNode M) → f s ≡ Some n → Inside a.prefix x n.prefix → Begins b.prefix n.prefix
  middle_begins = head_begins k.at root tree q b k.old_child k.old

  middle_under : (s : ℕ) (n : TableNode M) → f s ≡ Some n → Inside a.prefix x n.prefix → (z d : ℕ) → lookup n.children z ≡ Some (below_at d) → Under f' n z d
  middle_under s n h i z d e =
      let u : Under f n z d = tree.under s n h z d e in
      let inside : Inside a.prefix x u.node.prefix = Begins-trans (a.prefix ++ x ∷ []) n.prefix u.node.prefix i (begins_before n.prefix z u.node.prefix u.begins) in
      record { node = u.node; here = middle_stays d u.node u.here inside; begins = u.begins }

  new_under : (z d : ℕ) → lookup m.children z ≡ Some (below_at d) → Under f' m z d
  new_under z d e =
      let byte : z ≡ y = k.only z d e in
      let slot : q ≡ d = slots_same q d (sym k.child ∙ subst (λ i. lookup m.children i ≡ Some (below_at d)) byte e) in
      record { node = b; here = subst (λ i. f' i ≡ Some b) slot (middle_stays q b k.old middle_inside); begins = subst (λ i. Inside m.prefix i b.prefix) (sym byte) k.below }

  -- the middle node leads on to each other node there
  middle_leads : (s : ℕ) (n : TableNode M) → f s ≡ Some n → Inside a.prefix x n.prefix → Leads f' m n.prefix
  middle_leads s n h i =
      let over : Begins b.prefix n.prefix = middle_begins s n h i in
      let goes : Begins (m.prefix ++ y ∷ []) n.prefix = Begins-trans (m.prefix ++ y ∷ []) b.prefix n.prefix k.below over in
      record {
        slot = q;
        node = b;
        child = subst (λ z. lookup m.children z ≡ Some (below_at q)) (sym (byte_after m.prefix y n.prefix goes)) k.child;
        here = middle_stays q b k.old middle_inside;
        begins = over;
      }

  middle_new_leads : (s o : ℕ) (n u : TableNode M) → f' s ≡ Some n → f' o ≡ Some u → Inside a.prefix x n.prefix → Inside a.prefix x u.prefix → Begins n.prefix u.prefix → (s ≡ o) ⊎ Leads f' n u.prefix
  middle_new_leads s o n u h g i j begins =
      elim (middle_or s n h i) [
        | inr new ↦ elim (middle_or o u g j) [
          | inr also ↦ inl (new.0 ∙ sym also.0)
          | inl old ↦ inr (subst (λ (z : TableNode M). Leads f' z u.prefix) (sym new.1) (middle_leads o u old j))
        ]
        | inl was ↦ elim (middle_or o u g j) [
          | inr also ↦
              let up : Begins n.prefix m.prefix = subst (λ (z : TableNode M). Begins n.prefix z.prefix) also.1 begins in
              let high : length n.prefix ≤ length m.prefix = length-begins n.prefix m.prefix up in
              let low : length b.prefix ≤ length n.prefix = length-begins b.prefix n.prefix (middle_begins s n was i) in
              let longer : length m.prefix < length b.prefix = longer-begins m.prefix b.prefix y k.below in
              absurd (omega (arith, high, low, longer))
          | inl old ↦ elim (tree.leads s o n u was old begins) [
            | inl same ↦ inl same
            | inr on ↦
                let inside : Inside a.prefix x on.node.prefix = Begins-trans (a.prefix ++ x ∷ []) n.prefix on.node.prefix i (begins_before n.prefix (next_byte n.prefix u.prefix) on.node.prefix (leads_under f root tree s n u.prefix was on)) in
                inr (record { slot = on.slot; node = on.node; child = on.child; here = middle_stays on.slot on.node on.here inside; begins = on.begins })
          ]
        ]
      ]

  middle_relinks : Relinks f f' p x a a'
  middle_relinks = record {
    at = k.at;
    stay = λ s n ne off h. k.others s ne (λ e. none_some n (sym k.vacant ∙ subst (λ z. f z ≡ Some n) e h)) ∙ h;
    were = λ s n ne off h. sym (k.others s ne (λ e. off (subst (λ (z : TableNode M). Inside a.prefix x z.prefix) (some_same m n (sym k.new ∙ subst (λ z. f' z ≡ Some n) e h)) k.begins))) ∙ h;
    child = λ d e. record { node = m; here = subst (λ z. f' z ≡ Some m) (slots_same r d (sym k.new_child ∙ e)) k.new; begins = k.begins };
    leads = λ s n h i. record {
      slot = r;
      node = m;
      child = subst (λ z. lookup a'.children (next_byte z n.prefix) ≡ Some (below_at r)) (sym k.at.prefix) (subst (λ z. lookup a'.children z ≡ Some (below_at r)) (sym (byte_after a.prefix x n.prefix i)) k.new_child);
      here = k.new;
      begins = elim (middle_or s n h i) [
        | inl was ↦ Begins-trans m.prefix b.prefix n.prefix middle_over (middle_begins s n was i)
        | inr new ↦ subst (λ (z : TableNode M). Begins m.prefix z.prefix) (sym new.1) (begins_itself m.prefix)
      ];
    };
    new_shaped = λ s n h i. elim (middle_or s n h i) [
      | inl was ↦ tree.shaped s n was
      | inr new ↦ subst (λ (z : TableNode M). IsShaped z) (sym new.1) k.shaped
    ];
    new_under = λ s n h i z d e. elim (middle_or s n h i) [
      | inl was ↦ middle_under s n was i z d e
      | inr new ↦ subst (λ (w : TableNode M). Under f' w z d) (sym new.1) (new_under z d (subst (λ (w : TableNode M). lookup w.children z ≡ Some (below_at d)) new.1 e))
    ];
    new_leads = middle_new_leads;
  }

  pub middle_tree : IsTree f' root
  middle_tree = relinks_tree middle_relinks root tree
