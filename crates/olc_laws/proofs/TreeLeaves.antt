-- In a tree: a leaf has another payload, a leaf is linked under a byte that had no child, and a node without nodes
-- below it is taken out.
use Rattle.std.proofs.Common.{◌≡◌, ◌≢◌, ℕ, ◌<◌, ◌≤◌, length, Some, None, inl, inr, sym, subst, ◌∙◌, arith}
use Rattle.std.proofs.lemmas.Bool.Decides.{eqb_tells}
use Rattle.spec_map.specs.Map.{lookup}
use Rattle.spec_node.specs.Key.{Begins, next_byte}
use Rattle.spec_node.specs.TableNode.{TableNode}
use Rattle.spec_node.specs.declared.child.Child.TheVariants.{Node as below_at}
use Rattle.node_table.proofs.BeginLaws.{begins_itself}
use Rattle.olc_state.proofs.Options.{some_same, none_some}
use Rattle.olc_state.proofs.Ways.{longer-begins, slots_same}
use Rattle.olc_laws.proofs.Prefixes.{byte_after}
use Rattle.olc_laws.proofs.Trees.{Tree, IsShaped, Leads, IsTree}
use Rattle.olc_laws.proofs.Below.{Inside, ChangesChild, Relinks, relinks_tree, none_inside, head_begins, head_inside, parent_off}

module _ {M : Type 0} where
  -- no child is a node
  abbrev pub HasNoNodes : TableNode M → Type 0
  HasNoNodes n = (y c : ℕ) → lookup n.children y ≡ Some (below_at c) → ⊥

  -- A LEAF has another payload under one byte, or none
  pub record ChangesLeaf (f f' : Tree M) (p x : ℕ) (a a' : TableNode M) : Type 0 where
    pub at : ChangesChild f f' p x a a'
    pub full : length a.prefix ≡ 7
    pub paid : (c : ℕ) → lookup a'.children x ≡ Some (below_at c) → ⊥
    pub others : (s : ℕ) → s ≢ p → f' s ≡ f s

  -- A LEAF IS LINKED below a byte that had no child
  pub record LinksLeaf (f f' : Tree M) (p x q : ℕ) (a a' b : TableNode M) : Type 0 where
    pub at : ChangesChild f f' p x a a'
    pub empty : lookup a.children x ≡ None
    pub child : lookup a'.children x ≡ Some (below_at q)
    pub vacant : f q ≡ None
    pub linked : f' q ≡ Some b
    pub begins : Inside a.prefix x b.prefix
    pub shaped : IsShaped b
    pub leaf : HasNoNodes b
    pub others : (s : ℕ) → s ≢ p → s ≢ q → f' s ≡ f s

  -- A NODE WITHOUT NODES BELOW IT IS TAKEN OUT
  pub record DropsNode (f f' : Tree M) (p x q : ℕ) (a a' b : TableNode M) : Type 0 where
    pub at : ChangesChild f f' p x a a'
    pub child : lookup a.children x ≡ Some (below_at q)
    pub empty : lookup a'.children x ≡ None
    pub linked : f q ≡ Some b
    pub leaf : HasNoNodes b
    pub gone : f' q ≡ None
    pub others : (s : ℕ) → s ≢ p → s ≢ q → f' s ≡ f s

module _ {M : Type 0} {f f' : Tree M} {p x : ℕ} {a a' : TableNode M} (u : ChangesLeaf f f' p x a a') (root : ℕ) (tree : IsTree f root) where
  nothing : (s : ℕ) (n : TableNode M) → f' s ≡ Some n → Inside a.prefix x n.prefix → ⊥
  nothing s n h i =
      let was : f s ≡ Some n = sym (u.others s (parent_off u.at root tree s n h i)) ∙ h in
      let longer : length a.prefix < length n.prefix = longer-begins a.prefix n.prefix x i in
      let short : length n.prefix ≤ 7 = (tree.shaped s n was).short in
      omega (arith, longer, short, u.full)

  paid_relinks : Relinks f f' p x a a'
  paid_relinks = record {
    at = u.at;
    stay = λ s n ne off h. u.others s ne ∙ h;
    were = λ s n ne off h. sym (u.others s ne) ∙ h;
    child = λ c e. absurd (u.paid c e);
    leads = λ s n h i. absurd (nothing s n h i);
    new_shaped = λ s n h i. absurd (nothing s n h i);
    new_under = λ s n h i. absurd (nothing s n h i);
    new_leads = λ s r n m h g i j. absurd (nothing s n h i);
  }

  pub paid_tree : IsTree f' root
  paid_tree = relinks_tree paid_relinks root tree

module _ {M : Type 0} {f f' : Tree M} {p x q : ℕ} {a a' b : TableNode M} (l : LinksLeaf f f' p x q a a' b) (root : ℕ) (tree : IsTree f root) where
  -- it is the only node there
  pub only_new : (s : ℕ) (n : TableNode M) → f' s ≡ Some n → Inside a.prefix x n.prefix → (s ≡ q) × (n ≡ b)
  only_new s n h i =
      elim (eqb_tells s q) [
        | inl e ↦ (e.1, some_same n b (sym (subst (λ z. f' z ≡ Some n) e.1 h) ∙ l.linked))
        | inr ne ↦ absurd (none_inside l.at root tree (λ c e. none_some (below_at c) (sym l.empty ∙ e)) s n (sym (l.others s (parent_off l.at root tree s n h i) ne.1) ∙ h) i)
      ]

  new_on : (n : TableNode M) → n ≡ b → Inside a.prefix x n.prefix → Leads f' a' n.prefix
  new_on n is i = record {
    slot = q;
    node = b;
    child = subst (λ z. lookup a'.children (next_byte z n.prefix) ≡ Some (below_at q)) (sym l.at.prefix) (subst (λ z. lookup a'.children z ≡ Some (below_at q)) (sym (byte_after a.prefix x n.prefix i)) l.child);
    here = l.linked;
    begins = subst (λ (z : TableNode M). Begins b.prefix z.prefix) (sym is) (begins_itself b.prefix);
  }

  linked_relinks : Relinks f f' p x a a'
  linked_relinks = record {
    at = l.at;
    stay = λ s n ne off h. l.others s ne (λ e. none_some n (sym l.vacant ∙ subst (λ z. f z ≡ Some n) e h)) ∙ h;
    were = λ s n ne off h. sym (l.others s ne (λ e. off (subst (λ (z : TableNode M). Inside a.prefix x z.prefix) (some_same b n (sym l.linked ∙ subst (λ z. f' z ≡ Some n) e h)) l.begins))) ∙ h;
    child = λ c e. record {
      node = b;
      here = subst (λ z. f' z ≡ Some b) (slots_same q c (sym l.child ∙ e)) l.linked;
      begins = l.begins;
    };
    leads = λ s n h i. new_on n (only_new s n h i).1 i;
    new_shaped = λ s n h i. subst (λ (z : TableNode M). IsShaped z) (sym (only_new s n h i).1) l.shaped;
    new_under = λ s n h i y c e. absurd (l.leaf y c (subst (λ (z : TableNode M). lookup z.children y ≡ Some (below_at c)) (only_new s n h i).1 e));
    new_leads = λ s r n m h g i j begins. inl ((only_new s n h i).0 ∙ sym (only_new r m g j).0);
  }

  pub linked_tree : IsTree f' root
  linked_tree = relinks_tree linked_relinks root tree

module _ {M : Type 0} {f f' : Tree M} {p x q : ℕ} {a a' b : TableNode M} (d : DropsNode f f' p x q a a' b) (root : ℕ) (tree : IsTree f root) where
  -- it was the only node there
  only_old : (s : ℕ) (n : TableNode M) → f s ≡ Some n → Inside a.prefix x n.prefix → s ≡ q
  only_old s n h i =
      elim (tree.leads q s b n d.linked h (head_begins d.at root tree q b d.child d.linked s n h i)) [
        | inl same ↦ sym same
        | inr on ↦ absurd (d.leaf (next_byte b.prefix n.prefix) on.slot on.child)
      ]

  pub none_left : (s : ℕ) (n : TableNode M) → f' s ≡ Some n → Inside a.prefix x n.prefix → ⊥
  none_left s n h i =
      elim (eqb_tells s q) [
        | inl e ↦ none_some n (sym d.gone ∙ subst (λ z. f' z ≡ Some n) e.1 h)
        | inr ne ↦ ne.1 (only_old s n (sym (d.others s (parent_off d.at root tree s n h i) ne.1) ∙ h) i)
      ]

  dropped_relinks : Relinks f f' p x a a'
  dropped_relinks = record {
    at = d.at;
    stay = λ s n ne off h. d.others s ne (λ e. off (subst (λ (z : TableNode M). Inside a.prefix x z.prefix) (some_same b n (sym d.linked ∙ subst (λ z. f z ≡ Some n) e h)) (head_inside d.at root tree q b d.child d.linked))) ∙ h;
    were = λ s n ne off h. sym (d.others s ne (λ e. none_some n (sym d.gone ∙ subst (λ z. f' z ≡ Some n) e h))) ∙ h;
    child = λ c e. absurd (none_some (below_at c) (sym d.empty ∙ e));
    leads = λ s n h i. absurd (none_left s n h i);
    new_shaped = λ s n h i. absurd (none_left s n h i);
    new_under = λ s n h i. absurd (none_left s n h i);
    new_leads = λ s r n m h g i j. absurd (none_left s n h i);
  }

  pub dropped_tree : IsTree f' root
  dropped_tree = relinks_tree dropped_relinks root tree
