-- GROWTH: a private copy of a locked node, with one entry more, takes its place below its locked parent. The entry is a
-- payload, or a leaf with one pair that is linked by the same write.
use Rattle.std.proofs.Common.{◌≡◌, ◌≢◌, ℕ, ◌^◌, ◌<◌, List, [], ◌∷◌, length, Some, None, inl, inr, refl, sym, subst, ap, ◌∙◌, arith}
use Rattle.std.proofs.lemmas.Bool.Decides.{eqb_tells}
use Rattle.spec_map.specs.Map.{lookup, put}
use Rattle.spec_map.proofs.MapLaws.{lookup-put_same, lookup-put_other}
use Rattle.spec_node.specs.Key.{Begins}
use Rattle.spec_node.specs.TableNode.{TableNode, Child}
use Rattle.spec_node.specs.declared.child.Child.TheVariants.{Payload, Node as below_at}
use Rattle.spec_olc.specs.Calls.{bytes_of}
use Rattle.olc_state.specs.inner.World.{PlacedNode, NodeMap, entry}
use Rattle.olc_state.specs.inner.Tables.{byte_at, IsPlaced, NeedsHolder}
use Rattle.olc_state.proofs.Options.{none_some, some_same}
use Rattle.olc_laws.proofs.Below.{ChangesChild, head_inside, parent_was_off}
use Rattle.olc_laws.proofs.Effects.{OthersStay, Effect, effect}
use Rattle.olc_laws.proofs.Pairs.{Elsewhere, PutsPair, OtherPays, puts_pair}
use Rattle.olc_laws.proofs.Prefixes.{begins_next, key_byte}
use Rattle.olc_laws.proofs.Trees.{Tree, IsTree, IsShaped, tree_of, linked_in, tree_at, placed_tree, override, override_here, override_other}
use Rattle.olc_laws.proofs.TreeCopies.{CopiesNode, copied_tree}
use Rattle.olc_laws.proofs.TreeLeaves.{ChangesLeaf, LinksLeaf, paid_tree, linked_tree}
use Rattle.olc_laws.proofs.Writing.{answered, WritesBelow, Publishes, Detaches, IsLeafFor, leaf_has, leaf_only, leaf_nodes, leaf_shaped, payload_below, below_payload, answer_changes, written_at, written_changes, written_steps, published_tree, published_vacant, published_steps, published_needs, published_new, detached_tree, detached_steps, SlotPays, other_pays, vacant_pays, node_pays, only_pays, parent_to, parent_from}

module _ {M : Type 0} where
  -- the copy, with this child more under the key's byte, for the old node
  pub record Swaps (t t' : NodeMap M) (p q r key : ℕ) (a b c : PlacedNode M) (child : Child M) : Type 0 where
    pub write : WritesBelow t t' p key a (Some (below_at r))
    pub under : entry a (byte_at a (bytes_of key)) ≡ Some (below_at q)
    pub old : Detaches t t' q b b.node
    pub begins : Begins b.node.prefix (bytes_of key)
    pub empty : entry b (byte_at b (bytes_of key)) ≡ None
    pub new : Publishes t t' r c
    pub prefix : c.node.prefix ≡ b.node.prefix
    pub children : c.node.children ≡ put b.node.children (byte_at b (bytes_of key)) child
    pub small : key < 2 ^ 64

  -- A FULL LEAF grows
  pub record GrowsLeaf (t t' : NodeMap M) (p q r key : ℕ) (a b c : PlacedNode M) (v : M) : Type 0 where
    pub swap : Swaps t t' p q r key a b c (Payload v)
    pub full : length b.node.prefix ≡ 7
    pub others : OthersStay t t' (p ∷ q ∷ r ∷ [])

  -- A FULL INNER NODE grows, and has the new leaf
  pub record GrowsInner (t t' : NodeMap M) (p q r o key : ℕ) (a b c d : PlacedNode M) (v : M) : Type 0 where
    pub swap : Swaps t t' p q r key a b c (below_at o)
    pub inner : length b.node.prefix < 7
    pub leaf_new : Publishes t t' o d
    pub leaf : IsLeafFor d.node key v
    pub others : OthersStay t t' (p ∷ q ∷ r ∷ o ∷ [])

  -- the old node with that child
  abbrev grown : PlacedNode M → ℕ → Child M → TableNode M
  grown b key child = record b.node { children = put b.node.children (byte_at b (bytes_of key)) child }

  module _ {t t' : NodeMap M} {p q r key : ℕ} {a b c : PlacedNode M} {child : Child M} (w : Swaps t t' p q r key a b c child) (root : ℕ) (placed : IsPlaced t root) where
    tree : IsTree (tree_of t) root
    tree = placed_tree t root placed

    old_here : tree_of t q ≡ Some b.node
    old_here = tree_at t q b w.old.here

    old_shaped : IsShaped b.node
    old_shaped = tree.shaped q b.node old_here

    old_byte : byte_at b (bytes_of key) < 256
    old_byte = key_byte b.node.prefix key w.begins old_shaped.short

    changes_here : ChangesChild (tree_of t) (tree_of t') p (byte_at a (bytes_of key)) a.node (answered a (byte_at a (bytes_of key)) (Some (below_at r))).node
    changes_here = written_changes w.write root placed (λ v e. absurd (below_payload r v e))

    q_not_p : q ≢ p
    q_not_p = parent_was_off changes_here root tree q b.node old_here (head_inside changes_here root tree q b.node w.under old_here)

    q_not_r : q ≢ r
    q_not_r = published_new w.new q b w.old.here

    -- the copy takes the place of the old node with that child
    swap_copies : (f : Tree M) → f p ≡ Some a.node → f q ≡ Some (grown b key child) → f r ≡ None → ((s : ℕ) → s ≢ p → s ≢ q → s ≢ r → tree_of t' s ≡ f s)
        → CopiesNode f (tree_of t') p (byte_at a (bytes_of key)) q r a.node (answered a (byte_at a (bytes_of key)) (Some (below_at r))).node (grown b key child) c.node
    swap_copies f at_p at_q at_r others = record {
      at = record { before = at_p; after = changes_here.after; prefix = refl; form = refl; shaped = changes_here.shaped; children = changes_here.children };
      old_child = w.under;
      new_child = written_at w.write root placed;
      old = at_q;
      gone = detached_tree w.old;
      vacant = at_r;
      new = published_tree w.new;
      prefix = w.prefix;
      children = w.children;
      others = others;
    }

    -- payloads of the old node are the copy's, and back
    old_pays : (prefix : List ℕ) (byte : ℕ) → SlotPays (tree_of t) (tree_of t') prefix byte q
    old_pays prefix byte =
        node_pays (tree_of t) (tree_of t') prefix byte q r b.node c.node old_here (published_tree w.new) w.prefix (λ y v far e.
        let off : y ≢ byte_at b (bytes_of key) = λ i. none_some (Payload v) (sym w.empty ∙ subst (λ z. entry b z ≡ Some (Payload v)) i e) in
        subst (λ (es : List (ℕ × Child M)). lookup es y ≡ Some (Payload v)) (sym w.children) (lookup-put_other b.node.children (byte_at b (bytes_of key)) child y off ∙ e))

    copy_pays : (prefix : List ℕ) (byte : ℕ) → ((y : ℕ) (v : M) → Elsewhere prefix byte c.node.prefix y → child ≡ Payload v → y ≢ byte_at b (bytes_of key)) → SlotPays (tree_of t') (tree_of t) prefix byte r
    copy_pays prefix byte new =
        node_pays (tree_of t') (tree_of t) prefix byte r q c.node b.node (published_tree w.new) old_here (sym w.prefix) (λ y v far e.
        let there : lookup (put b.node.children (byte_at b (bytes_of key)) child) y ≡ Some (Payload v) = subst (λ (es : List (ℕ × Child M)). lookup es y ≡ Some (Payload v)) w.children e in
        let off : y ≢ byte_at b (bytes_of key) = λ i.
        new y v far (some_same child (Payload v) (sym (lookup-put_same b.node.children (byte_at b (bytes_of key)) child)
        ∙ subst (λ z. lookup (put b.node.children (byte_at b (bytes_of key)) child) z ≡ Some (Payload v)) i there)) i in
        sym (lookup-put_other b.node.children (byte_at b (bytes_of key)) child y off) ∙ there)

    parent_pays : (prefix : List ℕ) (byte : ℕ) → SlotPays (tree_of t) (tree_of t') prefix byte p
    parent_pays prefix byte = parent_to w.write root placed prefix byte (λ v e. below_payload q v (sym w.under ∙ e))

    parent_paid : (prefix : List ℕ) (byte : ℕ) → SlotPays (tree_of t') (tree_of t) prefix byte p
    parent_paid prefix byte = parent_from w.write root placed prefix byte (λ v e. below_payload r v e)

module _ {M : Type 0} {t t' : NodeMap M} {p q r key : ℕ} {a b c : PlacedNode M} {v : M} (g : GrowsLeaf t t' p q r key a b c v) (root : ℕ) (placed : IsPlaced t root) where
  leaf_tree : IsTree (tree_of t) root → IsTree (tree_of t') root
  leaf_tree before =
      let f : Tree M = override (tree_of t) q (grown b key (Payload v)) in
      let here : f q ≡ Some (grown b key (Payload v)) = override_here (tree_of t) q (grown b key (Payload v)) in
      let off : (s : ℕ) → s ≢ q → f s ≡ tree_of t s = override_other (tree_of t) q (grown b key (Payload v)) in
      let first : ChangesLeaf (tree_of t) f q (byte_at b (bytes_of key)) b.node (grown b key (Payload v)) = record {
        at = answer_changes (tree_of t) f q (byte_at b (bytes_of key)) b.node (Some (Payload v)) (old_here g.swap root placed) here (old_shaped g.swap root placed) (old_byte g.swap root placed) (λ w e. g.full);
        full = g.full;
        paid = λ d e. payload_below v d (sym (lookup-put_same b.node.children (byte_at b (bytes_of key)) (Payload v)) ∙ e);
        others = off;
      } in
      let at_p : f p ≡ Some a.node = off p (λ e. q_not_p g.swap root placed (sym e)) ∙ tree_at t p a g.swap.write.here in
      let at_r : f r ≡ None = off r (λ e. q_not_r g.swap root placed (sym e)) ∙ published_vacant g.swap.new in
      copied_tree
      (swap_copies g.swap root placed f at_p here at_r (λ s far not_q not_r.
      ap linked_in (g.others s (λ one. elim one [ inl e ↦ far (sym e) | inr (inl e) ↦ not_q (sym e) | inr (inr (inl e)) ↦ not_r (sym e) | inr (inr (inr none)) ↦ none ])) ∙ sym (off s not_q)))
      root (paid_tree first root before)

  pub grown_leaf_effect : (Mine May : ℕ → Type 0) → Mine p → Mine q → Mine r → Effect t t' root Mine May (p ∷ q ∷ r ∷ []) (p ∷ q ∷ [])
  grown_leaf_effect Mine May mine also made =
      effect t t' root Mine May (p ∷ q ∷ r ∷ []) (p ∷ q ∷ []) placed g.others
      (written_steps g.swap.write root placed Mine May mine, (detached_steps g.swap.old root Mine May placed also, (published_steps g.swap.new Mine May made, tt)))
      ((λ (need : NeedsHolder t' p). inl refl), ((λ (need : NeedsHolder t' q). inr (inl refl)), ((λ (need : NeedsHolder t' r). absurd (published_needs g.swap.new need)), tt)))
      leaf_tree

  grown_leaf_others : OtherPays (tree_of t) (tree_of t') b.node.prefix (byte_at b (bytes_of key))
  grown_leaf_others =
      let prefix = b.node.prefix in
      let byte = byte_at b (bytes_of key) in
      other_pays t t' prefix byte (p ∷ q ∷ r ∷ []) g.others
      (parent_pays g.swap root placed prefix byte, (old_pays g.swap root placed prefix byte, (vacant_pays (tree_of t) (tree_of t') prefix byte r (published_vacant g.swap.new), tt))) (
        parent_paid g.swap root placed prefix byte,
        (
          vacant_pays (tree_of t') (tree_of t) prefix byte q (detached_tree g.swap.old),
          (copy_pays g.swap root placed prefix byte (λ y w far same. far g.swap.prefix), tt),
        ),
      )

  pub grown_leaf_puts : PutsPair t t' key v
  grown_leaf_puts =
      puts_pair t t' b.node.prefix key g.full g.swap.begins g.swap.small grown_leaf_others v (record {
        slot = r;
        node = c.node;
        here = published_tree g.swap.new;
        same = g.swap.prefix;
        child = subst (λ (es : List (ℕ × Child M)). lookup es (byte_at b (bytes_of key)) ≡ Some (Payload v)) (sym g.swap.children) (lookup-put_same b.node.children (byte_at b (bytes_of key)) (Payload v));
      })

module _ {M : Type 0} {t t' : NodeMap M} {p q r o key : ℕ} {a b c d : PlacedNode M} {v : M} (g : GrowsInner t t' p q r o key a b c d v) (root : ℕ) (placed : IsPlaced t root) where
  p_not_o : p ≢ o
  p_not_o = published_new g.leaf_new p a g.swap.write.here

  q_not_o : q ≢ o
  q_not_o = published_new g.leaf_new q b g.swap.old.here

  -- the copy is shorter than the leaf
  r_not_o : r ≢ o
  r_not_o e =
      let same : c ≡ d = some_same c d (sym g.swap.new.made ∙ subst (λ z. t z ≡ Some d) (sym e) g.leaf_new.made) in
      let even : length c.node.prefix ≡ length d.node.prefix = ap (λ (z : PlacedNode M). length z.node.prefix) same in
      let is : length c.node.prefix ≡ length b.node.prefix = ap length g.swap.prefix in
      omega (arith, even, is, g.inner, g.leaf.full)

  inner_tree : IsTree (tree_of t) root → IsTree (tree_of t') root
  inner_tree before =
      let e : Tree M = override (tree_of t) q (grown b key (below_at o)) in
      let f : Tree M = override e o d.node in
      let on_e : (s : ℕ) → s ≢ q → e s ≡ tree_of t s = override_other (tree_of t) q (grown b key (below_at o)) in
      let on_f : (s : ℕ) → s ≢ o → f s ≡ e s = override_other e o d.node in
      let here : f q ≡ Some (grown b key (below_at o)) = on_f q q_not_o ∙ override_here (tree_of t) q (grown b key (below_at o)) in
      let leaf : f o ≡ Some d.node = override_here e o d.node in
      let first : LinksLeaf (tree_of t) f q (byte_at b (bytes_of key)) o b.node (grown b key (below_at o)) d.node = record {
        at = answer_changes (tree_of t) f q (byte_at b (bytes_of key)) b.node (Some (below_at o)) (old_here g.swap root placed) here (old_shaped g.swap root placed) (old_byte g.swap root placed)
            (λ w i. absurd (below_payload o w i));
        empty = g.swap.empty;
        child = lookup-put_same b.node.children (byte_at b (bytes_of key)) (below_at o);
        vacant = published_vacant g.leaf_new;
        linked = leaf;
        begins = begins_next b.node.prefix d.node.prefix (bytes_of key) g.swap.begins g.leaf.begins (omega (arith, g.inner, g.leaf.full));
        shaped = leaf_shaped g.leaf;
        leaf = leaf_nodes g.leaf;
        others = λ s not_q not_o. on_f s not_o ∙ on_e s not_q;
      } in
      let at_p : f p ≡ Some a.node = on_f p p_not_o ∙ (on_e p (λ i. q_not_p g.swap root placed (sym i)) ∙ tree_at t p a g.swap.write.here) in
      let at_r : f r ≡ None = on_f r r_not_o ∙ (on_e r (λ i. q_not_r g.swap root placed (sym i)) ∙ published_vacant g.swap.new) in
      copied_tree
      (swap_copies g.swap root placed f at_p here at_r (λ s far not_q not_r.
      elim (eqb_tells s o) [
        | inl is ↦ subst (λ z. tree_of t' z ≡ f z) (sym is.1) (published_tree g.leaf_new ∙ sym leaf)
        | inr not_o ↦
            ap linked_in (g.others s (λ one. elim one [
              | inl i ↦ far (sym i)
              | inr (inl i) ↦ not_q (sym i)
              | inr (inr (inl i)) ↦ not_r (sym i)
              | inr (inr (inr (inl i))) ↦ not_o.1 (sym i)
              | inr (inr (inr (inr none))) ↦ none
            ])) ∙ sym (on_f s not_o.1 ∙ on_e s not_q)
      ]))
      root (linked_tree first root before)

  pub grown_inner_effect : (Mine May : ℕ → Type 0) → Mine p → Mine q → Mine r → Mine o → Effect t t' root Mine May (p ∷ q ∷ r ∷ o ∷ []) (p ∷ q ∷ [])
  grown_inner_effect Mine May mine also made leaf =
      effect t t' root Mine May (p ∷ q ∷ r ∷ o ∷ []) (p ∷ q ∷ []) placed g.others
      (written_steps g.swap.write root placed Mine May mine, (detached_steps g.swap.old root Mine May placed also, (published_steps g.swap.new Mine May made, (published_steps g.leaf_new Mine May leaf, tt)))) (
        (λ (need : NeedsHolder t' p). inl refl),
        (
          (λ (need : NeedsHolder t' q). inr (inl refl)),
          ((λ (need : NeedsHolder t' r). absurd (published_needs g.swap.new need)), ((λ (need : NeedsHolder t' o). absurd (published_needs g.leaf_new need)), tt)),
        ),
      )
      inner_tree

  grown_inner_others : OtherPays (tree_of t) (tree_of t') d.node.prefix (byte_at d (bytes_of key))
  grown_inner_others =
      let prefix = d.node.prefix in
      let byte = byte_at d (bytes_of key) in
      other_pays t t' prefix byte (p ∷ q ∷ r ∷ o ∷ []) g.others (
        parent_pays g.swap root placed prefix byte,
        (
          old_pays g.swap root placed prefix byte,
          (
            vacant_pays (tree_of t) (tree_of t') prefix byte r (published_vacant g.swap.new),
            (vacant_pays (tree_of t) (tree_of t') prefix byte o (published_vacant g.leaf_new), tt),
          ),
        ),
      ) (
        parent_paid g.swap root placed prefix byte,
        (
          vacant_pays (tree_of t') (tree_of t) prefix byte q (detached_tree g.swap.old),
          (
            copy_pays g.swap root placed prefix byte (λ y w far same. absurd (below_payload o w (ap (λ z. Some z) same))),
            (only_pays (tree_of t') (tree_of t) prefix byte o d.node (published_tree g.leaf_new) (λ y w far e. far refl (leaf_only g.leaf y (Payload w) e).0), tt),
          ),
        ),
      )

  pub grown_inner_puts : PutsPair t t' key v
  grown_inner_puts =
      puts_pair t t' d.node.prefix key g.leaf.full g.leaf.begins g.swap.small grown_inner_others v
      (record { slot = o; node = d.node; here = published_tree g.leaf_new; same = refl; child = leaf_has g.leaf })
