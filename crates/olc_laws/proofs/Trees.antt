-- The linked nodes of a table alone: a tree, whose nodes have no words.
use Rattle.std.proofs.Common.{◌≡◌, ◌≢◌, ℕ, ◌≤◌, List, [], ◌∷◌, ◌++◌, length, Option, Some, None, ◌⊎◌, ◌↔◌, inl, inr, refl, sym, subst, ap, ◌∙◌, cond, eqb}
use Rattle.std.proofs.lemmas.Bool.{eq-eqb, ne_eqb}
use Rattle.node_base.specs.declared.base_node.NodeType.TheVariants.{N256}
use Rattle.spec_map.specs.Map.{lookup, Rises}
use Rattle.spec_node.specs.Key.{Begins, AreBytes, next_byte}
use Rattle.spec_node.specs.TableNode.{TableNode}
use Rattle.spec_node.specs.declared.child.Child.TheVariants.{Payload, Node as below_at}
use Rattle.spec_olc.specs.Lock.{IsFree, IsLocked, IsObsolete}
use Rattle.olc_state.specs.inner.World.{NodeLifetime, is_private, is_linked, is_detached, is_retired, PlacedNode, NodeMap}
use Rattle.olc_state.specs.inner.Tables.{IsLinked, IsBelow, IsPlaced, Keeps}

-- the linked node in each slot
abbrev pub Tree : Type 0 → Type 0
Tree M = ℕ → Option (TableNode M)

module _ {M : Type 0} where
  abbrev pub when_linked : NodeLifetime → TableNode M → Option (TableNode M)
  when_linked is_private n = None
  when_linked is_linked n = Some n
  when_linked is_detached n = None
  when_linked (is_retired stamp) n = None

  abbrev pub linked_in : Option (PlacedNode M) → Option (TableNode M)
  linked_in None = None
  linked_in (Some a) = when_linked a.lifetime a.node

  abbrev pub tree_of : NodeMap M → Tree M
  tree_of t s = linked_in (t s)

  -- what a linked node is by itself
  pub record IsShaped (n : TableNode M) : Type 0 where
    pub short : length n.prefix ≤ 7
    pub bytes : AreBytes n.prefix
    pub ordered : Rises 0 256 n.children
    pub leaf : (x : ℕ) (v : M) → lookup n.children x ≡ Some (Payload v) → length n.prefix ≡ 7

  -- a node in this slot is below this byte of a node
  pub record Under (f : Tree M) (n : TableNode M) (byte c : ℕ) : Type 0 where
    pub node : TableNode M
    pub here : f c ≡ Some node
    pub begins : Begins (n.prefix ++ byte ∷ []) node.prefix

  -- a node leads on by the next byte of these
  pub record Leads (f : Tree M) (n : TableNode M) (k : List ℕ) : Type 0 where
    pub slot : ℕ
    pub node : TableNode M
    pub child : lookup n.children (next_byte n.prefix k) ≡ Some (below_at slot)
    pub here : f slot ≡ Some node
    pub begins : Begins node.prefix k

  pub record IsTree (f : Tree M) (root : ℕ) : Type 0 where
    pub top : TableNode M
    pub top_here : f root ≡ Some top
    pub top_prefix : top.prefix ≡ []
    pub top_form : top.form ≡ N256
    pub shaped : (s : ℕ) (n : TableNode M) → f s ≡ Some n → IsShaped n
    pub under : (s : ℕ) (n : TableNode M) → f s ≡ Some n → (x c : ℕ) → lookup n.children x ≡ Some (below_at c) → Under f n x c
    pub leads : (s r : ℕ) (n m : TableNode M) → f s ≡ Some n → f r ≡ Some m → Begins n.prefix m.prefix → (s ≡ r) ⊎ Leads f n m.prefix

  -- a payload is below this byte of a node with this prefix
  pub record Pays (f : Tree M) (prefix : List ℕ) (byte : ℕ) (v : M) : Type 0 where
    pub slot : ℕ
    pub node : TableNode M
    pub here : f slot ≡ Some node
    pub same : node.prefix ≡ prefix
    pub child : lookup node.children byte ≡ Some (Payload v)

  -- how a node's word agrees with its state
  pub record IsWorded (a : PlacedNode M) : Type 0 where
    pub free : IsFree a.word → (a.lifetime ≡ is_linked) ⊎ (a.lifetime ≡ is_private)
    pub locked : IsObsolete a.word → IsLocked a.word
    pub obsolete : IsObsolete a.word ↔ ((stamp : Option ℕ) × (a.lifetime ≡ is_retired stamp))

  abbrev pub AreWorded : NodeMap M → Type 0
  AreWorded t = (s : ℕ) (a : PlacedNode M) → t s ≡ Some a → IsWorded a

  pub tree_at : (t : NodeMap M) (s : ℕ) (a : PlacedNode M) → IsLinked t s a → tree_of t s ≡ Some a.node
  tree_at t s a h = ap linked_in h.here ∙ ap (λ z. when_linked z a.node) h.lifetime

  only_linked : (current : NodeLifetime) (m n : TableNode M) → when_linked current m ≡ Some n → (current ≡ is_linked) × (m ≡ n)
  only_linked is_private m n e = absurd cc
  only_linked is_linked m n e = (refl, cc)
  only_linked is_detached m n e = absurd cc
  only_linked (is_retired stamp) m n e = absurd cc

  -- a linked node of the table is in the tree at the same slot
  pub record Stands (t : NodeMap M) (s : ℕ) (n : TableNode M) : Type 0 where
    pub node : PlacedNode M
    pub linked : IsLinked t s node
    pub same : node.node ≡ n

  stands_in : (t : NodeMap M) (s : ℕ) (x : Option (PlacedNode M)) (n : TableNode M) → t s ≡ x → linked_in x ≡ Some n → Stands t s n
  stands_in t s None n at e = absurd cc
  stands_in t s (Some a) n at e =
      let is = only_linked a.lifetime a.node n e in
      record { node = a; linked = record { here = at; lifetime = is.0 }; same = is.1 }

  pub stands_at : (t : NodeMap M) (s : ℕ) (n : TableNode M) → tree_of t s ≡ Some n → Stands t s n
  stands_at t s n e = stands_in t s (t s) n refl e

  -- THE PLACE FACTS are those of the tree, and of the words
  pub placed_tree : (t : NodeMap M) (root : ℕ) → IsPlaced t root → IsTree (tree_of t) root
  placed_tree t root placed = record {
    top = placed.top.node;
    top_here = tree_at t root placed.top placed.top_linked;
    top_prefix = placed.top_prefix;
    top_form = placed.top_form;
    shaped = λ s n e.
        let h : Stands t s n = stands_at t s n e in
        subst (λ (z : TableNode M). IsShaped z) h.same (record {
          short = placed.short s h.node h.linked;
          bytes = placed.bytes s h.node h.linked;
          ordered = placed.ordered s h.node h.linked;
          leaf = placed.leaf s h.node h.linked;
        });
    under = λ s n e x c.
        let h : Stands t s n = stands_at t s n e in
        subst (λ (z : TableNode M). lookup z.children x ≡ Some (below_at c) → Under (tree_of t) z x c) h.same (λ child.
        let b : IsBelow t h.node x c = placed.below s h.node h.linked x c child in
        record { node = b.node.node; here = tree_at t c b.node b.linked; begins = b.begins });
    leads = λ s r n m e d.
        let h : Stands t s n = stands_at t s n e in
        let g : Stands t r m = stands_at t r m d in
        subst (λ (z : TableNode M). Begins z.prefix m.prefix → (s ≡ r) ⊎ Leads (tree_of t) z m.prefix) h.same
        (subst (λ (z : TableNode M). Begins h.node.node.prefix z.prefix → (s ≡ r) ⊎ Leads (tree_of t) h.node.node z.prefix) g.same (λ begins.
        elim (placed.leads s r h.node g.node h.linked g.linked begins) [
          | inl same ↦ inl same
          | inr on ↦ inr (record { slot = on.slot; node = on.node.node; child = on.entry_is; here = tree_at t on.slot on.node on.linked; begins = on.begins })
        ]));
  }

  pub placed_worded : (t : NodeMap M) (root : ℕ) → IsPlaced t root → AreWorded t
  placed_worded t root placed s a h = record { free = placed.free s a h; locked = placed.locked s a h; obsolete = placed.obsolete s a h }

  pub tree_placed : (t : NodeMap M) (root : ℕ) → IsTree (tree_of t) root → AreWorded t → IsPlaced t root
  tree_placed t root tree worded =
      let top : Stands t root tree.top = stands_at t root tree.top tree.top_here in
      record {
        top = top.node;
        top_linked = top.linked;
        top_prefix = ap (λ (z : TableNode M). z.prefix) top.same ∙ tree.top_prefix;
        top_form = ap (λ (z : TableNode M). z.form) top.same ∙ tree.top_form;
        short = λ s a h. (tree.shaped s a.node (tree_at t s a h)).short;
        bytes = λ s a h. (tree.shaped s a.node (tree_at t s a h)).bytes;
        ordered = λ s a h. (tree.shaped s a.node (tree_at t s a h)).ordered;
        below = λ s a h x c e.
            let u : Under (tree_of t) a.node x c = tree.under s a.node (tree_at t s a h) x c e in
            let b : Stands t c u.node = stands_at t c u.node u.here in
            record { node = b.node; linked = b.linked; begins = subst (λ (z : TableNode M). Begins (a.node.prefix ++ x ∷ []) z.prefix) (sym b.same) u.begins };
        leaf = λ s a h. (tree.shaped s a.node (tree_at t s a h)).leaf;
        leads = λ s r a b h g begins.
            elim (tree.leads s r a.node b.node (tree_at t s a h) (tree_at t r b g) begins) [
              | inl same ↦ inl same
              | inr on ↦
                  let n : Stands t on.slot on.node = stands_at t on.slot on.node on.here in
                  inr (record {
                    slot = on.slot;
                    node = n.node;
                    entry_is = on.child;
                    linked = n.linked;
                    begins = subst (λ (z : TableNode M). Begins z.prefix b.node.prefix) (sym n.same) on.begins;
                  })
            ];
        free = λ s a h. (worded s a h).free;
        locked = λ s a h. (worded s a h).locked;
        obsolete = λ s a h. (worded s a h).obsolete;
      }

  -- a pair is stored exactly if a payload is on the key's way
  pub keeps_pays : (t : NodeMap M) (k : List ℕ) (v : M) (h : Keeps t k v) → Pays (tree_of t) h.leaf.node.prefix (next_byte h.leaf.node.prefix k) v
  keeps_pays t k v h = record { slot = h.slot; node = h.leaf.node; here = tree_at t h.slot h.leaf h.linked; same = refl; child = h.payload }

  pub pays_keeps : (t : NodeMap M) (p k : List ℕ) (v : M) → length p ≡ 7 → Begins p k → Pays (tree_of t) p (next_byte p k) v → Keeps t k v
  pays_keeps t p k v full begins pays =
      let h : Stands t pays.slot pays.node = stands_at t pays.slot pays.node pays.here in
      let prefix : h.node.node.prefix ≡ p = ap (λ (z : TableNode M). z.prefix) h.same ∙ pays.same in
      let child : lookup h.node.node.children (next_byte p k) ≡ Some (Payload v) = subst (λ (z : TableNode M). lookup z.children (next_byte p k) ≡ Some (Payload v)) (sym h.same) pays.child in
      record {
        slot = pays.slot;
        leaf = h.node;
        linked = h.linked;
        full = ap length prefix ∙ full;
        begins = subst (λ z. Begins z k) (sym prefix) begins;
        payload = subst (λ z. lookup h.node.node.children (next_byte z k) ≡ Some (Payload v)) (sym prefix) child;
      }

  -- slots with the same nodes make the same tree
  pub tree_same : (f f' : Tree M) (root : ℕ) → ((s : ℕ) → f' s ≡ f s) → IsTree f root → IsTree f' root
  tree_same f f' root same tree = record {
    top = tree.top;
    top_here = same root ∙ tree.top_here;
    top_prefix = tree.top_prefix;
    top_form = tree.top_form;
    shaped = λ s n e. tree.shaped s n (sym (same s) ∙ e);
    under = λ s n e x c child.
        let u = tree.under s n (sym (same s) ∙ e) x c child in
        record { node = u.node; here = same c ∙ u.here; begins = u.begins };
    leads = λ s r n m e d begins.
        elim (tree.leads s r n m (sym (same s) ∙ e) (sym (same r) ∙ d) begins) [
          | inl one ↦ inl one
          | inr on ↦ inr (record { slot = on.slot; node = on.node; child = on.child; here = same on.slot ∙ on.here; begins = on.begins })
        ];
  }

  -- a tree with this node in a slot
  abbrev pub override : Tree M → ℕ → TableNode M → Tree M
  override f s n o = cond (eqb o s) (Some n) (f o)

  pub override_here : (f : Tree M) (s : ℕ) (n : TableNode M) → override f s n s ≡ Some n
  override_here f s n = rw (eq-eqb s s refl)

  pub override_other : (f : Tree M) (s : ℕ) (n : TableNode M) (o : ℕ) → o ≢ s → override f s n o ≡ f o
  override_other f s n o far = rw (ne_eqb o s far)
