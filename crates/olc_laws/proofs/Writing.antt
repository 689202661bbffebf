-- What a write does to each slot that it names: a locked node has another child, a private node is linked, a node is
-- detached.
use Rattle.std.proofs.Common.{◌≡◌, ◌≢◌, ℕ, ◌<◌, ◌≤◌, List, [], ◌∷◌, length, Option, Some, None, inl, inr, refl, sym, subst, ap, ◌∙◌, arith}
use Rattle.std.proofs.lemmas.Bool.{eq-eqb, ne_eqb}
use Rattle.std.proofs.lemmas.Bool.Decides.{eqb_tells}
use Rattle.spec_map.specs.Map.{lookup, with_answer, Rises}
use Rattle.spec_map.proofs.MapLaws.{lookup-put_same, lookup-put_other, Rises-put, lookup-without_same, lookup-without_other, Rises-without}
use Rattle.spec_node.specs.Key.{Begins, AreBytes, next_byte}
use Rattle.spec_node.specs.TableNode.{TableNode, Child}
use Rattle.spec_node.specs.declared.child.Child.TheVariants.{Payload, Node as below_at}
use Rattle.node_table.proofs.BeginLaws.{after}
use Rattle.node_table.proofs.KeyLaws.{AreBytes-append_left}
use Rattle.spec_olc.specs.Calls.{bytes_of}
use Rattle.spec_olc.specs.Lock.{IsFree, IsLocked, IsObsolete}
use Rattle.olc_state.specs.inner.World.{is_private, is_linked, is_detached, PlacedNode, NodeMap, entry}
use Rattle.olc_state.specs.inner.Tables.{IsSafe, byte_at, IsLinked, IsPlaced, NeedsHolder}
use Rattle.olc_state.proofs.Options.{some_same, none_some}
use Rattle.olc_state.proofs.Unlike.{linked_private, linked_retired}
use Rattle.olc_state.proofs.Reaching.{bytes-of_key}
use Rattle.olc_laws.proofs.Below.{ChangesChild}
use Rattle.olc_laws.proofs.Effects.{OthersStay, AllIn, all_in, in_or}
use Rattle.olc_laws.proofs.Pairs.{Elsewhere, OtherPays}
use Rattle.olc_laws.proofs.Prefixes.{key_byte}
use Rattle.olc_laws.proofs.Slots.{StepsAt, changes, owned, worded_here, worded_detached, unretired, free_obsolete, free_locked, free_needs}
use Rattle.olc_laws.proofs.Trees.{Tree, Pays, IsShaped, IsWorded, tree_of, linked_in, when_linked, tree_at, placed_tree, placed_worded}
use Rattle.olc_laws.proofs.TreeLeaves.{HasNoNodes}

-- a map with another answer at a key
module _ {V : Type 0} where
  pub answer_same : (a b : ℕ) (es : List (ℕ × V)) (k : ℕ) (v : Option V) → Rises a b es → lookup (with_answer es k v) k ≡ v
  answer_same a b es k None rises = lookup-without_same a b es k rises
  answer_same a b es k (Some v) rises = lookup-put_same es k v

  pub answer_other : (es : List (ℕ × V)) (k : ℕ) (v : Option V) (j : ℕ) → j ≢ k → lookup (with_answer es k v) j ≡ lookup es j
  answer_other es k None j far = lookup-without_other es k j far
  answer_other es k (Some v) j far = lookup-put_other es k v j far

  pub answer_rises : (a b : ℕ) (es : List (ℕ × V)) (k : ℕ) (v : Option V) → Rises a b es → a ≤ k → k < b → Rises a b (with_answer es k v)
  answer_rises a b es k None rises low high = Rises-without a b es k rises
  answer_rises a b es k (Some v) rises low high = Rises-put a b es k v rises low high

module _ {M : Type 0} where
  -- the node with this child under a byte, or with none there
  abbrev pub answered : PlacedNode M → ℕ → Option (Child M) → PlacedNode M
  answered a byte child = record a { node = record a.node { children = with_answer a.node.children byte child } }

  -- A LOCKED LINKED NODE on a key's way has this child under the key's byte now, or none there
  pub record WritesBelow (t t' : NodeMap M) (p key : ℕ) (a : PlacedNode M) (child : Option (Child M)) : Type 0 where
    pub here : IsLinked t p a
    pub locked : IsLocked a.word
    pub begins : Begins a.node.prefix (bytes_of key)
    pub after : t' p ≡ Some (answered a (byte_at a (bytes_of key)) child)

  -- A PRIVATE NODE that is free IS LINKED
  pub record Publishes (t t' : NodeMap M) (r : ℕ) (c : PlacedNode M) : Type 0 where
    pub made : t r ≡ Some c
    pub private : c.lifetime ≡ is_private
    pub free : IsFree c.word
    pub after : t' r ≡ Some (record c { lifetime = is_linked })

  -- A LOCKED LINKED NODE IS DETACHED, and is this from then on
  pub record Detaches (t t' : NodeMap M) (q : ℕ) (b : PlacedNode M) (left : TableNode M) : Type 0 where
    pub here : IsLinked t q b
    pub locked : IsLocked b.word
    pub prefix : left.prefix ≡ b.node.prefix
    pub after : t' q ≡ Some (record b { node = left; lifetime = is_detached })

  -- A LEAF FOR ONE PAIR: the key's way to its last byte, and the payload under that
  pub record IsLeafFor (n : TableNode M) (key : ℕ) (v : M) : Type 0 where
    pub full : length n.prefix ≡ 7
    pub begins : Begins n.prefix (bytes_of key)
    pub children : n.children ≡ (next_byte n.prefix (bytes_of key), Payload v) ∷ []

  -- the node with another child is as it should be
  answer_leaf : (n : TableNode M) (x : ℕ) (child : Option (Child M)) → IsShaped n → ((v : M) → child ≡ Some (Payload v) → length n.prefix ≡ 7)
      → (y : ℕ) (v : M) → lookup (with_answer n.children x child) y ≡ Some (Payload v) → length n.prefix ≡ 7
  answer_leaf n x child shaped paid y v e =
      elim (eqb_tells y x) [
        | inl same ↦ paid v (sym (answer_same 0 256 n.children x child shaped.ordered) ∙ subst (λ z. lookup (with_answer n.children x child) z ≡ Some (Payload v)) same.1 e)
        | inr far ↦ shaped.leaf y v (sym (answer_other n.children x child y far.1) ∙ e)
      ]

  pub answer_changes : (f f' : Tree M) (p x : ℕ) (n : TableNode M) (child : Option (Child M)) → f p ≡ Some n → f' p ≡ Some (record n { children = with_answer n.children x child })
      → IsShaped n → x < 256 → ((v : M) → child ≡ Some (Payload v) → length n.prefix ≡ 7) → ChangesChild f f' p x n (record n { children = with_answer n.children x child })
  answer_changes f f' p x n child before after shaped small paid = record {
    before = before;
    after = after;
    prefix = refl;
    form = refl;
    shaped = record {
      short = shaped.short;
      bytes = shaped.bytes;
      ordered = answer_rises 0 256 n.children x child shaped.ordered (omega arith) small;
      leaf = answer_leaf n x child shaped paid;
    };
    children = λ y far. answer_other n.children x child y far;
  }

  pub payload_below : (v : M) (c : ℕ) → let x : Child M = Payload v in let y : Child M = below_at c in Some x ≡ Some y → ⊥
  payload_below v c e = cc

  pub below_payload : (c : ℕ) (v : M) → let x : Child M = below_at c in let y : Child M = Payload v in Some x ≡ Some y → ⊥
  below_payload c v e = cc

  pub single_same : (x : ℕ) (c : Child M) → lookup ((x, c) ∷ []) x ≡ Some c
  single_same x c = rw (eq-eqb x x refl)

  pub single_only : (x y : ℕ) (c d : Child M) → lookup ((x, c) ∷ []) y ≡ Some d → (y ≡ x) × (d ≡ c)
  single_only x y c d e =
      elim (eqb_tells x y) [
        | inl same ↦
            let found : lookup ((x, c) ∷ []) x ≡ Some d = subst (λ z. lookup ((x, c) ∷ []) z ≡ Some d) (sym same.1) e in
            (sym same.1, some_same d c (sym found ∙ single_same x c))
        | inr far ↦ absurd (none_some d (sym (rw (ne_eqb x y far.1) refl) ∙ e))
      ]

  module _ {n : TableNode M} {key : ℕ} {v : M} (l : IsLeafFor n key v) where
    pub leaf_has : lookup n.children (next_byte n.prefix (bytes_of key)) ≡ Some (Payload v)
    leaf_has = subst (λ (z : List (ℕ × Child M)). lookup z (next_byte n.prefix (bytes_of key)) ≡ Some (Payload v)) (sym l.children) (single_same (next_byte n.prefix (bytes_of key)) (Payload v))

    pub leaf_only : (y : ℕ) (d : Child M) → lookup n.children y ≡ Some d → (y ≡ next_byte n.prefix (bytes_of key)) × (d ≡ Payload v)
    leaf_only y d e = single_only (next_byte n.prefix (bytes_of key)) y (Payload v) d (subst (λ (z : List (ℕ × Child M)). lookup z y ≡ Some d) l.children e)

    pub leaf_nodes : HasNoNodes n
    leaf_nodes y c e = payload_below v c (ap (λ z. Some z) (sym (leaf_only y (below_at c) e).1))

    pub leaf_shaped : IsShaped n
    leaf_shaped =
        let rest = after l.begins in
        record {
          short = omega (arith, l.full);
          bytes = AreBytes-append_left n.prefix rest.rest (subst AreBytes rest.is (bytes-of_key key));
          ordered = subst (λ (z : List (ℕ × Child M)). Rises 0 256 z) (sym l.children) (omega arith, key_byte n.prefix key l.begins (omega (arith, l.full)), tt);
          leaf = λ y w e. l.full;
        }

  -- THE NODE THAT IS WRITTEN
  module _ {t t' : NodeMap M} {p key : ℕ} {a : PlacedNode M} {child : Option (Child M)} (w : WritesBelow t t' p key a child) (root : ℕ) (placed : IsPlaced t root) where
    pub before_shaped : IsShaped a.node
    before_shaped = (placed_tree t root placed).shaped p a.node (tree_at t p a w.here)

    pub written_at : lookup (answered a (byte_at a (bytes_of key)) child).node.children (byte_at a (bytes_of key)) ≡ child
    written_at = answer_same 0 256 a.node.children (byte_at a (bytes_of key)) child before_shaped.ordered

    pub written_linked : IsLinked t' p (answered a (byte_at a (bytes_of key)) child)
    written_linked = record { here = w.after; lifetime = w.here.lifetime }

    pub written_changes : ((v : M) → child ≡ Some (Payload v) → length a.node.prefix ≡ 7)
        → ChangesChild (tree_of t) (tree_of t') p (byte_at a (bytes_of key)) a.node (answered a (byte_at a (bytes_of key)) child).node
    written_changes paid =
        answer_changes (tree_of t) (tree_of t') p (byte_at a (bytes_of key)) a.node child (tree_at t p a w.here)
        (tree_at t' p (answered a (byte_at a (bytes_of key)) child) written_linked) before_shaped (key_byte a.node.prefix key w.begins before_shaped.short) paid

    pub written_steps : (Mine May : ℕ → Type 0) → Mine p → StepsAt t t' Mine May p
    written_steps Mine May mine =
        let b : PlacedNode M = answered a (byte_at a (bytes_of key)) child in
        let fresh : IsObsolete a.word → ⊥ = unretired a (placed_worded t root placed p a w.here.here) (λ stamp r. linked_retired stamp (sym w.here.lifetime ∙ r)) in
        changes t t' Mine May p a b w.here.here w.after (λ e. linked_private (sym w.here.lifetime ∙ e)) (worded_here b (inl w.here.lifetime) fresh) refl (omega arith)
        (λ f e. absurd (free_locked a.word f w.locked)) (λ pin may. subst (λ z. IsSafe pin z) (sym w.here.lifetime) tt) (inl mine)

  -- A NODE THAT IS LINKED
  module _ {t t' : NodeMap M} {r : ℕ} {c : PlacedNode M} (l : Publishes t t' r c) where
    pub published_linked : IsLinked t' r (record c { lifetime = is_linked })
    published_linked = record { here = l.after; lifetime = refl }

    pub published_tree : tree_of t' r ≡ Some c.node
    published_tree = tree_at t' r (record c { lifetime = is_linked }) published_linked

    pub published_vacant : tree_of t r ≡ None
    published_vacant = ap linked_in l.made ∙ ap (λ z. when_linked z c.node) l.private

    pub published_steps : (Mine May : ℕ → Type 0) → Mine r → StepsAt t t' Mine May r
    published_steps Mine May mine =
        owned t t' Mine May r c l.made l.private mine
        (λ d h. subst (λ (z : PlacedNode M). IsWorded z) (some_same (record c { lifetime = is_linked }) d (sym l.after ∙ h)) (worded_here (record c { lifetime = is_linked }) (inl refl) (free_obsolete c.word l.free)))

    pub published_needs : NeedsHolder t' r → ⊥
    published_needs = free_needs t' r (record c { lifetime = is_linked }) l.after refl l.free

    -- it is none of the linked ones
    pub published_new : (s : ℕ) (a : PlacedNode M) → IsLinked t s a → s ≢ r
    published_new s a h e =
        linked_private (sym h.lifetime ∙ (ap (λ (z : PlacedNode M). z.lifetime) (some_same a c (sym h.here ∙ subst (λ z. t z ≡ Some c) (sym e) l.made)) ∙ l.private))

  -- A NODE THAT IS DETACHED
  module _ {t t' : NodeMap M} {q : ℕ} {b : PlacedNode M} {left : TableNode M} (d : Detaches t t' q b left) where
    pub detached_tree : tree_of t' q ≡ None
    detached_tree = ap linked_in d.after

    pub detached_steps : (root : ℕ) (Mine May : ℕ → Type 0) → IsPlaced t root → Mine q → StepsAt t t' Mine May q
    detached_steps root Mine May placed mine =
        let c : PlacedNode M = record b { node = left; lifetime = is_detached } in
        let fresh : IsObsolete b.word → ⊥ = unretired b (placed_worded t root placed q b d.here.here) (λ stamp r. linked_retired stamp (sym d.here.lifetime ∙ r)) in
        changes t t' Mine May q b c d.here.here d.after (λ e. linked_private (sym d.here.lifetime ∙ e)) (worded_detached c refl d.locked fresh) d.prefix (omega arith)
        (λ f e. absurd (free_locked b.word f d.locked)) (λ pin may. tt) (inl mine)

  -- PAYLOADS SLOT BY SLOT: each one in the slot, but for one place, is in the other tree at the same place
  abbrev pub SlotPays : Tree M → Tree M → List ℕ → ℕ → ℕ → Type 0
  SlotPays f g prefix byte s =
      (n : TableNode M) → f s ≡ Some n → (y : ℕ) (v : M) → Elsewhere prefix byte n.prefix y → lookup n.children y ≡ Some (Payload v) → Pays g n.prefix y v

  pays_on : (f g : Tree M) (prefix : List ℕ) (byte : ℕ) → ((s : ℕ) → SlotPays f g prefix byte s) → (p : List ℕ) (x : ℕ) (v : M) → Elsewhere prefix byte p x → Pays f p x v → Pays g p x v
  pays_on f g prefix byte on p x v far h =
      let far' : Elsewhere prefix byte h.node.prefix x = λ e. far (sym h.same ∙ e) in
      subst (λ z. Pays g z x v) h.same (on h.slot h.node h.here x v far' h.child)

  slots_pay : (t t' : NodeMap M) (prefix : List ℕ) (byte : ℕ) (written : List ℕ) → OthersStay t t' written → AllIn (SlotPays (tree_of t) (tree_of t') prefix byte) written
      → (s : ℕ) → SlotPays (tree_of t) (tree_of t') prefix byte s
  slots_pay t t' prefix byte written others all s =
      elim (in_or s written) [
        | inl one ↦ all_in (SlotPays (tree_of t) (tree_of t') prefix byte) written all s one
        | inr out ↦ λ n h y v far e. record { slot = s; node = n; here = ap linked_in (others s out) ∙ h; same = refl; child = e }
      ]

  pub other_pays : (t t' : NodeMap M) (prefix : List ℕ) (byte : ℕ) (written : List ℕ) → OthersStay t t' written
      → AllIn (SlotPays (tree_of t) (tree_of t') prefix byte) written → AllIn (SlotPays (tree_of t') (tree_of t) prefix byte) written → OtherPays (tree_of t) (tree_of t') prefix byte
  other_pays t t' prefix byte written others to from p x v far = (
    (λ (h : Pays (tree_of t) p x v). pays_on (tree_of t) (tree_of t') prefix byte (slots_pay t t' prefix byte written others to) p x v far h),
    (λ (h : Pays (tree_of t') p x v). pays_on (tree_of t') (tree_of t) prefix byte (slots_pay t' t prefix byte written (λ s out. sym (others s out)) from) p x v far h),
  )

  -- an empty slot has none
  pub vacant_pays : (f g : Tree M) (prefix : List ℕ) (byte s : ℕ) → f s ≡ None → SlotPays f g prefix byte s
  vacant_pays f g prefix byte s none n h = absurd (none_some n (sym none ∙ h))

  -- a node whose payloads elsewhere are in a node with the same prefix
  pub node_pays : (f g : Tree M) (prefix : List ℕ) (byte s r : ℕ) (n m : TableNode M) → f s ≡ Some n → g r ≡ Some m → m.prefix ≡ n.prefix
      → ((y : ℕ) (v : M) → Elsewhere prefix byte n.prefix y → lookup n.children y ≡ Some (Payload v) → lookup m.children y ≡ Some (Payload v)) → SlotPays f g prefix byte s
  node_pays f g prefix byte s r n m here there same on =
      λ z h. subst (λ (z : TableNode M). (y : ℕ) (v : M) → Elsewhere prefix byte z.prefix y → lookup z.children y ≡ Some (Payload v) → Pays g z.prefix y v) (some_same n z (sym here ∙ h))
      (λ y v far e. record { slot = r; node = m; here = there; same = same; child = on y v far e })

  -- a node that has none elsewhere
  pub only_pays : (f g : Tree M) (prefix : List ℕ) (byte s : ℕ) (n : TableNode M) → f s ≡ Some n → ((y : ℕ) (v : M) → Elsewhere prefix byte n.prefix y → lookup n.children y ≡ Some (Payload v) → ⊥)
      → SlotPays f g prefix byte s
  only_pays f g prefix byte s n here none =
      λ z h. subst (λ (z : TableNode M). (y : ℕ) (v : M) → Elsewhere prefix byte z.prefix y → lookup z.children y ≡ Some (Payload v) → Pays g z.prefix y v) (some_same n z (sym here ∙ h))
      (λ y v far e. absurd (none y v far e))

  -- a node that has a child of another kind than a payload keeps its payloads
  module _ {t t' : NodeMap M} {p key : ℕ} {a : PlacedNode M} {child : Option (Child M)} (w : WritesBelow t t' p key a child) (root : ℕ) (placed : IsPlaced t root) (prefix : List ℕ) (byte : ℕ) where
    pub parent_to : ((v : M) → entry a (byte_at a (bytes_of key)) ≡ Some (Payload v) → ⊥) → SlotPays (tree_of t) (tree_of t') prefix byte p
    parent_to none =
        let b : PlacedNode M = answered a (byte_at a (bytes_of key)) child in
        node_pays (tree_of t) (tree_of t') prefix byte p p a.node b.node (tree_at t p a w.here) (tree_at t' p b (written_linked w root placed)) refl (λ y v far e.
        let off : y ≢ byte_at a (bytes_of key) = λ q. none v (subst (λ z. entry a z ≡ Some (Payload v)) q e) in
        answer_other a.node.children (byte_at a (bytes_of key)) child y off ∙ e)

    pub parent_from : ((v : M) → child ≡ Some (Payload v) → ⊥) → SlotPays (tree_of t') (tree_of t) prefix byte p
    parent_from none =
        let b : PlacedNode M = answered a (byte_at a (bytes_of key)) child in
        node_pays (tree_of t') (tree_of t) prefix byte p p b.node a.node (tree_at t' p b (written_linked w root placed)) (tree_at t p a w.here) refl (λ y v far e.
        let off : y ≢ byte_at a (bytes_of key) = λ q. none v (sym (written_at w root placed) ∙ subst (λ z. entry b z ≡ Some (Payload v)) q e) in
        sym (answer_other a.node.children (byte_at a (bytes_of key)) child y off) ∙ e)
