-- Below one byte of a linked node other nodes are linked than before.
use Rattle.std.proofs.Common.{◌≡◌, ◌≢◌, ℕ, ◌+◌, ◌<◌, ◌≤◌, List, [], ◌∷◌, ◌++◌, length, Some, ◌⊎◌, inl, inr, refl, sym, subst, ap, ◌∙◌, arith}
use Rattle.std.proofs.lemmas.Bool.{cases_lt}
use Rattle.std.proofs.lemmas.Bool.Decides.{eqb_tells}
use Rattle.spec_map.specs.Map.{lookup}
use Rattle.spec_node.specs.Key.{Begins, next_byte}
use Rattle.spec_node.specs.TableNode.{TableNode}
use Rattle.spec_node.specs.declared.child.Child.TheVariants.{Node as below_at}
use Rattle.node_table.proofs.BeginLaws.{begins_itself}
use Rattle.olc_state.proofs.Options.{some_same}
use Rattle.olc_state.proofs.Ways.{length-begins, Begins-trans, Begins-both, get_or-begins, longer-begins, slots_same}
use Rattle.olc_laws.proofs.Prefixes.{byte_after, begins_before, snoc_length, begins_or}
use Rattle.olc_laws.proofs.Trees.{Tree, IsShaped, Under, Leads, IsTree}

-- the bytes go the way of this list and byte
abbrev pub Inside : List ℕ → ℕ → List ℕ → Type 0
Inside p x q = Begins (p ++ x ∷ []) q

module _ {M : Type 0} where
  -- the linked node in a slot has another child under one byte, or none
  pub record ChangesChild (f f' : Tree M) (p x : ℕ) (a a' : TableNode M) : Type 0 where
    pub before : f p ≡ Some a
    pub after : f' p ≡ Some a'
    pub prefix : a'.prefix ≡ a.prefix
    pub form : a'.form ≡ a.form
    pub shaped : IsShaped a'
    pub children : (y : ℕ) → y ≢ x → lookup a'.children y ≡ lookup a.children y

  -- The linked node in a slot has another child under one byte, or none; the nodes whose prefixes don't go that way
  -- stay, and those that do are linked to one another, and to that child, as in a tree.
  pub record Relinks (f f' : Tree M) (p x : ℕ) (a a' : TableNode M) : Type 0 where
    pub at : ChangesChild f f' p x a a'
    pub stay : (s : ℕ) (n : TableNode M) → s ≢ p → (Inside a.prefix x n.prefix → ⊥) → f s ≡ Some n → f' s ≡ Some n
    pub were : (s : ℕ) (n : TableNode M) → s ≢ p → (Inside a.prefix x n.prefix → ⊥) → f' s ≡ Some n → f s ≡ Some n
    pub child : (c : ℕ) → lookup a'.children x ≡ Some (below_at c) → Under f' a x c
    pub leads : (s : ℕ) (n : TableNode M) → f' s ≡ Some n → Inside a.prefix x n.prefix → Leads f' a' n.prefix
    pub new_shaped : (s : ℕ) (n : TableNode M) → f' s ≡ Some n → Inside a.prefix x n.prefix → IsShaped n
    pub new_under : (s : ℕ) (n : TableNode M) → f' s ≡ Some n → Inside a.prefix x n.prefix → (y c : ℕ) → lookup n.children y ≡ Some (below_at c) → Under f' n y c
    pub new_leads : (s r : ℕ) (n m : TableNode M) → f' s ≡ Some n → f' r ≡ Some m → Inside a.prefix x n.prefix → Inside a.prefix x m.prefix → Begins n.prefix m.prefix
        → (s ≡ r) ⊎ Leads f' n m.prefix

  -- a node was there before, with all children but perhaps that one
  pub record Was (f : Tree M) (p x s : ℕ) (n : TableNode M) : Type 0 where
    pub node : TableNode M
    pub here : f s ≡ Some node
    pub prefix : n.prefix ≡ node.prefix
    pub children : (y : ℕ) → (s ≡ p → y ≢ x) → lookup n.children y ≡ lookup node.children y

  -- a node is still there
  pub record Still (f' : Tree M) (s : ℕ) (n : TableNode M) : Type 0 where
    pub node : TableNode M
    pub here : f' s ≡ Some node
    pub prefix : node.prefix ≡ n.prefix
    pub form : node.form ≡ n.form

  -- a child that is still there is below each node with that prefix
  under_still : (f f' : Tree M) (n w : TableNode M) (y c : ℕ) → n.prefix ≡ w.prefix → (u : Under f w y c) → Still f' c u.node → Under f' n y c
  under_still f f' n w y c same u k = record {
    node = k.node;
    here = k.here;
    begins = subst (λ z. Begins (z ++ y ∷ []) k.node.prefix) (sym same) (subst (λ z. Begins (w.prefix ++ y ∷ []) z) (sym k.prefix) u.begins);
  }

module _ {M : Type 0} {f f' : Tree M} {p x : ℕ} {a a' : TableNode M} (re : Relinks f f' p x a a') where
  -- a node that doesn't go that way was there, and is there
  pub was : (s : ℕ) (n : TableNode M) → f' s ≡ Some n → (Inside a.prefix x n.prefix → ⊥) → Was f p x s n
  was s n h off =
      elim (eqb_tells s p) [
        | inl e ↦
            let is : n ≡ a' = some_same n a' (sym h ∙ subst (λ z. f' z ≡ Some a') (sym e.1) re.at.after) in
            record {
              node = a;
              here = subst (λ z. f z ≡ Some a) (sym e.1) re.at.before;
              prefix = ap (λ (z : TableNode M). z.prefix) is ∙ re.at.prefix;
              children = λ y other. subst (λ (z : TableNode M). lookup z.children y ≡ lookup a.children y) (sym is) (re.at.children y (other e.1));
            }
        | inr ne ↦ record { node = n; here = re.were s n ne.1 off h; prefix = refl; children = λ y other. refl }
      ]

  pub still : (s : ℕ) (n : TableNode M) → f s ≡ Some n → (Inside a.prefix x n.prefix → ⊥) → Still f' s n
  still s n h off =
      elim (eqb_tells s p) [
        | inl e ↦
            let is : a ≡ n = some_same a n (sym (subst (λ z. f z ≡ Some a) (sym e.1) re.at.before) ∙ h) in
            record {
              node = a';
              here = subst (λ z. f' z ≡ Some a') (sym e.1) re.at.after;
              prefix = re.at.prefix ∙ ap (λ (z : TableNode M). z.prefix) is;
              form = re.at.form ∙ ap (λ (z : TableNode M). z.form) is;
            }
        | inr ne ↦ record { node = n; here = re.stay s n ne.1 off h; prefix = refl; form = refl }
      ]

  module _ (root : ℕ) (tree : IsTree f root) where
    -- the child of a node that doesn't go that way doesn't, but for the child under that byte
    pub child_off : (s : ℕ) (n : TableNode M) (y c : ℕ) → f s ≡ Some n → (Inside a.prefix x n.prefix → ⊥) → (s ≡ p → y ≢ x) → lookup n.children y ≡ Some (below_at c) → (u : Under f n y c)
        → Inside a.prefix x u.node.prefix → ⊥
    child_off s n y c h off other child u inside =
        let from_n : Begins n.prefix u.node.prefix = begins_before n.prefix y u.node.prefix u.begins in
        let from_a : Begins a.prefix u.node.prefix = begins_before a.prefix x u.node.prefix inside in
        elim (cases_lt (length a.prefix) (length n.prefix)) [
          | inl less ↦
              let grown : length (a.prefix ++ x ∷ []) ≡ length a.prefix + 1 = snoc_length a.prefix x in
              off (Begins-both (a.prefix ++ x ∷ []) n.prefix u.node.prefix inside from_n (omega arith))
          | inr le ↦ elim (tree.leads s p n a h re.at.before (Begins-both n.prefix a.prefix u.node.prefix from_n from_a le)) [
            | inl same ↦
                let is : n ≡ a = some_same n a (sym h ∙ subst (λ z. f z ≡ Some a) (sym same) re.at.before) in
                let one : next_byte n.prefix u.node.prefix ≡ next_byte a.prefix u.node.prefix = ap (λ (z : TableNode M). next_byte z.prefix u.node.prefix) is in
                other same (sym (byte_after n.prefix y u.node.prefix u.begins) ∙ (one ∙ byte_after a.prefix x u.node.prefix inside))
            | inr on ↦
                let v : Under f n (next_byte n.prefix a.prefix) on.slot = tree.under s n h (next_byte n.prefix a.prefix) on.slot on.child in
                let one : v.node ≡ on.node = some_same v.node on.node (sym v.here ∙ on.here) in
                let longer : length n.prefix < length on.node.prefix = subst (λ (z : TableNode M). length n.prefix < length z.prefix) one (longer-begins n.prefix v.node.prefix (next_byte n.prefix a.prefix) v.begins) in
                let within : length on.node.prefix ≤ length a.prefix = length-begins on.node.prefix a.prefix on.begins in
                let byte : next_byte n.prefix a.prefix ≡ y = get_or-begins a.prefix u.node.prefix (length n.prefix) from_a (omega arith) ∙ byte_after n.prefix y u.node.prefix u.begins in
                let there : lookup n.children y ≡ Some (below_at on.slot) = subst (λ z. lookup n.children z ≡ Some (below_at on.slot)) byte on.child in
                let slot : c ≡ on.slot = slots_same c on.slot (sym child ∙ there) in
                let is : u.node ≡ on.node = some_same u.node on.node (sym u.here ∙ subst (λ z. f z ≡ Some on.node) (sym slot) on.here) in
                let beyond : length a.prefix < length on.node.prefix = subst (λ (z : TableNode M). length a.prefix < length z.prefix) is (longer-begins a.prefix u.node.prefix x inside) in
                omega (arith, within, beyond)
          ]
        ]

    under_off : (s : ℕ) (n : TableNode M) (y c : ℕ) → f' s ≡ Some n → (Inside a.prefix x n.prefix → ⊥) → (s ≡ p → y ≢ x) → lookup n.children y ≡ Some (below_at c) → Under f' n y c
    under_off s n y c h off other child =
        let w : Was f p x s n = was s n h off in
        let off_w : Inside a.prefix x w.node.prefix → ⊥ = subst (λ z. Inside a.prefix x z → ⊥) w.prefix off in
        let there : lookup w.node.children y ≡ Some (below_at c) = sym (w.children y other) ∙ child in
        let u : Under f w.node y c = tree.under s w.node w.here y c there in
        under_still f f' n w.node y c w.prefix u (still c u.node u.here (child_off s w.node y c w.here off_w other there u))

    pub relinks_under : (s : ℕ) (n : TableNode M) → f' s ≡ Some n → (y c : ℕ) → lookup n.children y ≡ Some (below_at c) → Under f' n y c
    relinks_under s n h y c child =
        elim (begins_or (a.prefix ++ x ∷ []) n.prefix) [
          | inl inside ↦ re.new_under s n h inside y c child
          | inr off ↦ elim (eqb_tells s p) [
            | inr ne ↦ under_off s n y c h off (λ e. absurd (ne.1 e)) child
            | inl e ↦ elim (eqb_tells y x) [
              | inr far ↦ under_off s n y c h off (λ q. far.1) child
              | inl here ↦
                  let is : n ≡ a' = some_same n a' (sym h ∙ subst (λ z. f' z ≡ Some a') (sym e.1) re.at.after) in
                  let there : lookup a'.children x ≡ Some (below_at c) = subst (λ (z : TableNode M). lookup z.children x ≡ Some (below_at c)) is (subst (λ z. lookup n.children z ≡ Some (below_at c)) here.1 child) in
                  let u : Under f' a x c = re.child c there in
                  record {
                    node = u.node;
                    here = u.here;
                    begins = subst (λ z. Begins (z ++ y ∷ []) u.node.prefix) (sym (ap (λ (z : TableNode M). z.prefix) is ∙ re.at.prefix)) (subst (λ z. Begins (a.prefix ++ z ∷ []) u.node.prefix) (sym here.1) u.begins);
                  }
            ]
          ]
        ]

    -- a way that doesn't go by that byte is unchanged
    way_off : (s : ℕ) (n w : TableNode M) (k : List ℕ) → f s ≡ Some w → n.prefix ≡ w.prefix → ((y : ℕ) → (s ≡ p → y ≢ x) → lookup n.children y ≡ lookup w.children y) → (on : Leads f w k)
        → (Inside a.prefix x on.node.prefix → ⊥) → Leads f' n k
    way_off s n w k h prefix children on off =
        let u : Under f w (next_byte w.prefix k) on.slot = tree.under s w h (next_byte w.prefix k) on.slot on.child in
        let one : u.node ≡ on.node = some_same u.node on.node (sym u.here ∙ on.here) in
        let goes : Begins (w.prefix ++ next_byte w.prefix k ∷ []) on.node.prefix = subst (λ (z : TableNode M). Begins (w.prefix ++ next_byte w.prefix k ∷ []) z.prefix) one u.begins in
        let other : s ≡ p → next_byte w.prefix k ≢ x = λ e byte.
        let is : w ≡ a = some_same w a (sym h ∙ subst (λ z. f z ≡ Some a) (sym e) re.at.before) in
        off (subst (λ (z : TableNode M). Inside z.prefix x on.node.prefix) is (subst (λ z. Begins (w.prefix ++ z ∷ []) on.node.prefix) byte goes)) in
        let kept : Still f' on.slot on.node = still on.slot on.node on.here off in
        record {
          slot = on.slot;
          node = kept.node;
          child = subst (λ z. lookup n.children (next_byte z k) ≡ Some (below_at on.slot)) (sym prefix) (children (next_byte w.prefix k) other ∙ on.child);
          here = kept.here;
          begins = subst (λ z. Begins z k) (sym kept.prefix) on.begins;
        }

    pub relinks_leads : (s r : ℕ) (n m : TableNode M) → f' s ≡ Some n → f' r ≡ Some m → Begins n.prefix m.prefix → (s ≡ r) ⊎ Leads f' n m.prefix
    relinks_leads s r n m h g begins =
        elim (begins_or (a.prefix ++ x ∷ []) n.prefix) [
          | inl inside ↦ re.new_leads s r n m h g inside (Begins-trans (a.prefix ++ x ∷ []) n.prefix m.prefix inside begins) begins
          | inr off ↦
              let w : Was f p x s n = was s n h off in
              elim (begins_or (a.prefix ++ x ∷ []) m.prefix) [
                | inl inside ↦
                    let from_a : Begins a.prefix m.prefix = begins_before a.prefix x m.prefix inside in
                    elim (cases_lt (length a.prefix) (length n.prefix)) [
                      | inl less ↦
                          let grown : length (a.prefix ++ x ∷ []) ≡ length a.prefix + 1 = snoc_length a.prefix x in
                          absurd (off (Begins-both (a.prefix ++ x ∷ []) n.prefix m.prefix inside begins (omega arith)))
                      | inr le ↦
                          let up : Begins n.prefix a.prefix = Begins-both n.prefix a.prefix m.prefix begins from_a le in
                          elim (tree.leads s p w.node a w.here re.at.before (subst (λ z. Begins z a.prefix) w.prefix up)) [
                            | inl same ↦
                                let is : a' ≡ n = some_same a' n (sym (subst (λ z. f' z ≡ Some a') (sym same) re.at.after) ∙ h) in
                                inr (subst (λ (z : TableNode M). Leads f' z m.prefix) is (re.leads r m g inside))
                            | inr on ↦
                                let v : Under f w.node (next_byte w.node.prefix a.prefix) on.slot = tree.under s w.node w.here (next_byte w.node.prefix a.prefix) on.slot on.child in
                                let one : v.node ≡ on.node = some_same v.node on.node (sym v.here ∙ on.here) in
                                let longer : length w.node.prefix < length on.node.prefix =
                                subst (λ (z : TableNode M). length w.node.prefix < length z.prefix) one (longer-begins w.node.prefix v.node.prefix (next_byte w.node.prefix a.prefix) v.begins) in
                                let within : length on.node.prefix ≤ length a.prefix = length-begins on.node.prefix a.prefix on.begins in
                                let byte : next_byte w.node.prefix a.prefix ≡ next_byte w.node.prefix m.prefix = get_or-begins a.prefix m.prefix (length w.node.prefix) from_a (omega arith) in
                                let far : Inside a.prefix x on.node.prefix → ⊥ = λ i. let beyond : length a.prefix < length on.node.prefix = longer-begins a.prefix on.node.prefix x i in omega (arith, beyond, within) in
                                inr (way_off s n w.node m.prefix w.here w.prefix w.children
                                (record {
                                  slot = on.slot;
                                  node = on.node;
                                  child = subst (λ z. lookup w.node.children z ≡ Some (below_at on.slot)) byte on.child;
                                  here = on.here;
                                  begins = Begins-trans on.node.prefix a.prefix m.prefix on.begins from_a;
                                }) far)
                          ]
                    ]
                | inr out ↦
                    let v : Was f p x r m = was r m g out in
                    elim (tree.leads s r w.node v.node w.here v.here (subst (λ z. Begins z v.node.prefix) w.prefix (subst (λ z. Begins n.prefix z) v.prefix begins))) [
                      | inl same ↦ inl same
                      | inr on ↦
                          let far : Inside a.prefix x on.node.prefix → ⊥ = λ i.
                          out (subst (λ z. Inside a.prefix x z) (sym v.prefix) (Begins-trans (a.prefix ++ x ∷ []) on.node.prefix v.node.prefix i on.begins)) in
                          inr (subst (λ z. Leads f' n z) (sym v.prefix) (way_off s n w.node v.node.prefix w.here w.prefix w.children on far))
                    ]
              ]
        ]

    relinks_shaped : (s : ℕ) (n : TableNode M) → f' s ≡ Some n → IsShaped n
    relinks_shaped s n h =
        elim (begins_or (a.prefix ++ x ∷ []) n.prefix) [
          | inl inside ↦ re.new_shaped s n h inside
          | inr off ↦ elim (eqb_tells s p) [
            | inl e ↦ subst (λ (z : TableNode M). IsShaped z) (some_same a' n (sym re.at.after ∙ subst (λ z. f' z ≡ Some n) e.1 h)) re.at.shaped
            | inr ne ↦ tree.shaped s n (re.were s n ne.1 off h)
          ]
        ]

    -- IT IS A TREE again
    pub relinks_tree : IsTree f' root
    relinks_tree =
        let out : Inside a.prefix x tree.top.prefix → ⊥ = λ i.
        let longer : length a.prefix < length tree.top.prefix = longer-begins a.prefix tree.top.prefix x i in
        let none : length tree.top.prefix ≡ 0 = ap length tree.top_prefix in omega (arith, longer, none) in
        let top : Still f' root tree.top = still root tree.top tree.top_here out in
        record {
          top = top.node;
          top_here = top.here;
          top_prefix = top.prefix ∙ tree.top_prefix;
          top_form = top.form ∙ tree.top_form;
          shaped = relinks_shaped;
          under = relinks_under;
          leads = relinks_leads;
        }

-- which nodes go that way before
module _ {M : Type 0} {f f' : Tree M} {p x : ℕ} {a a' : TableNode M} (at : ChangesChild f f' p x a a') (root : ℕ) (tree : IsTree f root) where
  pub inside_on : (s : ℕ) (n : TableNode M) → f s ≡ Some n → Inside a.prefix x n.prefix → Leads f a n.prefix
  inside_on s n h inside =
      elim (tree.leads p s a n at.before h (begins_before a.prefix x n.prefix inside)) [
        | inr on ↦ on
        | inl same ↦
            let is : a ≡ n = some_same a n (sym at.before ∙ subst (λ z. f z ≡ Some n) (sym same) h) in
            let longer : length a.prefix < length n.prefix = longer-begins a.prefix n.prefix x inside in
            let even : length a.prefix ≡ length n.prefix = ap (λ (z : TableNode M). length z.prefix) is in absurd (omega (arith, longer, even))
      ]

  pub inside_child : (s : ℕ) (n : TableNode M) (h : f s ≡ Some n) (i : Inside a.prefix x n.prefix) → lookup a.children x ≡ Some (below_at (inside_on s n h i).slot)
  inside_child s n h i = subst (λ z. lookup a.children z ≡ Some (below_at (inside_on s n h i).slot)) (byte_after a.prefix x n.prefix i) (inside_on s n h i).child

  -- none does where there is no node below that byte
  pub none_inside : ((c : ℕ) → lookup a.children x ≡ Some (below_at c) → ⊥) → (s : ℕ) (n : TableNode M) → f s ≡ Some n → Inside a.prefix x n.prefix → ⊥
  none_inside none s n h i = none (inside_on s n h i).slot (inside_child s n h i)

  -- each begins with the child there
  pub head_begins : (c : ℕ) (b : TableNode M) → lookup a.children x ≡ Some (below_at c) → f c ≡ Some b → (s : ℕ) (n : TableNode M) → f s ≡ Some n → Inside a.prefix x n.prefix → Begins b.prefix n.prefix
  head_begins c b child here s n h i =
      let on : Leads f a n.prefix = inside_on s n h i in
      let slot : c ≡ on.slot = slots_same c on.slot (sym child ∙ inside_child s n h i) in
      let is : on.node ≡ b = some_same on.node b (sym (subst (λ z. f z ≡ Some on.node) (sym slot) on.here) ∙ here) in
      subst (λ (z : TableNode M). Begins z.prefix n.prefix) is on.begins

  pub head_inside : (c : ℕ) (b : TableNode M) → lookup a.children x ≡ Some (below_at c) → f c ≡ Some b → Inside a.prefix x b.prefix
  head_inside c b child here =
      let u : Under f a x c = tree.under p a at.before x c child in
      subst (λ (z : TableNode M). Inside a.prefix x z.prefix) (some_same u.node b (sym u.here ∙ here)) u.begins

  -- the node that changes doesn't, before or after
  pub parent_off : (s : ℕ) (n : TableNode M) → f' s ≡ Some n → Inside a.prefix x n.prefix → s ≢ p
  parent_off s n h i e =
      let is : n ≡ a' = some_same n a' (sym h ∙ subst (λ z. f' z ≡ Some a') (sym e) at.after) in
      let longer : length a.prefix < length n.prefix = longer-begins a.prefix n.prefix x i in
      let even : length n.prefix ≡ length a.prefix = ap (λ (z : TableNode M). length z.prefix) is ∙ ap length at.prefix in omega (arith, longer, even)

  pub parent_was_off : (s : ℕ) (n : TableNode M) → f s ≡ Some n → Inside a.prefix x n.prefix → s ≢ p
  parent_was_off s n h i e =
      let is : n ≡ a = some_same n a (sym h ∙ subst (λ z. f z ≡ Some a) (sym e) at.before) in
      let longer : length a.prefix < length n.prefix = longer-begins a.prefix n.prefix x i in
      let even : length n.prefix ≡ length a.prefix = ap (λ (z : TableNode M). length z.prefix) is in omega (arith, longer, even)

-- a child is longer than its node, and so is a node that it leads on to
module _ {M : Type 0} (f : Tree M) (root : ℕ) (tree : IsTree f root) where
  pub under_longer : (n : TableNode M) (y c : ℕ) (u : Under f n y c) → length n.prefix < length u.node.prefix
  under_longer n y c u = longer-begins n.prefix u.node.prefix y u.begins

  pub leads_under : (s : ℕ) (n : TableNode M) (k : List ℕ) → f s ≡ Some n → (on : Leads f n k) → Begins (n.prefix ++ next_byte n.prefix k ∷ []) on.node.prefix
  leads_under s n k h on =
      let u : Under f n (next_byte n.prefix k) on.slot = tree.under s n h (next_byte n.prefix k) on.slot on.child in
      subst (λ (z : TableNode M). Begins (n.prefix ++ next_byte n.prefix k ∷ []) z.prefix) (some_same u.node on.node (sym u.here ∙ on.here)) u.begins

  pub leads_longer : (s : ℕ) (n : TableNode M) (k : List ℕ) → f s ≡ Some n → (on : Leads f n k) → length n.prefix < length on.node.prefix
  leads_longer s n k h on = longer-begins n.prefix on.node.prefix (next_byte n.prefix k) (leads_under s n k h on)

  -- one prefix is in one slot
  pub one_prefix : (s r : ℕ) (n m : TableNode M) → f s ≡ Some n → f r ≡ Some m → n.prefix ≡ m.prefix → s ≡ r
  one_prefix s r n m h g same =
      elim (tree.leads s r n m h g (subst (λ z. Begins n.prefix z) same (begins_itself n.prefix))) [
        | inl one ↦ one
        | inr on ↦
            let longer : length n.prefix < length on.node.prefix = leads_longer s n m.prefix h on in
            let short : length on.node.prefix ≤ length m.prefix = length-begins on.node.prefix m.prefix on.begins in
            let even : length n.prefix ≡ length m.prefix = ap length same in absurd (omega (arith, longer, short, even))
      ]
