-- A LOCKED LEAF HAS ANOTHER PAYLOAD under a key's byte, or none there.
use Rattle.std.proofs.Common.{◌≡◌, ℕ, ◌^◌, ◌<◌, [], ◌∷◌, length, Option, Some, None, inl, inr, refl, sym, subst, ap, ◌∙◌}
use Rattle.spec_map.specs.Map.{lookup}
use Rattle.spec_node.specs.TableNode.{TableNode, Child}
use Rattle.spec_node.specs.declared.child.Child.TheVariants.{Payload, Node as below_at}
use Rattle.spec_olc.specs.Calls.{bytes_of}
use Rattle.olc_state.specs.inner.World.{PlacedNode, NodeMap}
use Rattle.olc_state.specs.inner.Tables.{byte_at, IsPlaced, NeedsHolder}
use Rattle.olc_state.proofs.Options.{some_same, none_some}
use Rattle.olc_laws.proofs.Below.{one_prefix}
use Rattle.olc_laws.proofs.Effects.{OthersStay, Effect, effect}
use Rattle.olc_laws.proofs.Pairs.{PutsPair, TakesPair, OtherPays, puts_pair, takes_pair}
use Rattle.olc_laws.proofs.Trees.{IsTree, tree_of, linked_in, tree_at, placed_tree}
use Rattle.olc_laws.proofs.TreeLeaves.{ChangesLeaf, paid_tree}
use Rattle.olc_laws.proofs.Writing.{answered, WritesBelow, written_at, written_linked, written_changes, written_steps, other_pays, node_pays, answer_other}

module _ {M : Type 0} where
  abbrev pub payload : Option M → Option (Child M)
  payload None = None
  payload (Some v) = Some (Payload v)

  no_node : (value : Option M) (c : ℕ) → payload value ≡ Some (below_at c) → ⊥
  no_node None c e = cc
  no_node (Some v) c e = cc

  pub record WritesPayload (t t' : NodeMap M) (s key : ℕ) (a : PlacedNode M) (value : Option M) : Type 0 where
    pub write : WritesBelow t t' s key a (payload value)
    pub full : length a.node.prefix ≡ 7
    pub small : key < 2 ^ 64
    pub others : OthersStay t t' (s ∷ [])

module _ {M : Type 0} {t t' : NodeMap M} {s key : ℕ} {a : PlacedNode M} {value : Option M} (w : WritesPayload t t' s key a value) (root : ℕ) (placed : IsPlaced t root) where
  entry_changes : ChangesLeaf (tree_of t) (tree_of t') s (byte_at a (bytes_of key)) a.node (answered a (byte_at a (bytes_of key)) (payload value)).node
  entry_changes = record {
    at = written_changes w.write root placed (λ v e. w.full);
    full = w.full;
    paid = λ c e. no_node value c (sym (written_at w.write root placed) ∙ e);
    others = λ o far. ap linked_in (w.others o (λ one. elim one [ inl e ↦ far (sym e) | inr none ↦ none ]));
  }

  entry_tree : IsTree (tree_of t') root
  entry_tree = paid_tree entry_changes root (placed_tree t root placed)

  pub entry_effect : (Mine May : ℕ → Type 0) → Mine s → Effect t t' root Mine May (s ∷ []) (s ∷ [])
  entry_effect Mine May mine =
      effect t t' root Mine May (s ∷ []) (s ∷ []) placed w.others (written_steps w.write root placed Mine May mine, tt) ((λ (need : NeedsHolder t' s). inl refl), tt) (λ tree. entry_tree)

  entry_others : OtherPays (tree_of t) (tree_of t') a.node.prefix (byte_at a (bytes_of key))
  entry_others =
      let b : PlacedNode M = answered a (byte_at a (bytes_of key)) (payload value) in
      let before : tree_of t s ≡ Some a.node = tree_at t s a w.write.here in
      let after : tree_of t' s ≡ Some b.node = tree_at t' s b (written_linked w.write root placed) in
      other_pays t t' a.node.prefix (byte_at a (bytes_of key)) (s ∷ []) w.others (
        node_pays (tree_of t) (tree_of t') a.node.prefix (byte_at a (bytes_of key)) s s a.node b.node before after refl
            (λ y v far e. answer_other a.node.children (byte_at a (bytes_of key)) (payload value) y (far refl) ∙ e),
        tt,
      ) (
        node_pays (tree_of t') (tree_of t) a.node.prefix (byte_at a (bytes_of key)) s s b.node a.node after before refl
            (λ y v far e. sym (answer_other a.node.children (byte_at a (bytes_of key)) (payload value) y (far refl)) ∙ e),
        tt,
      )

  pub entry_puts : (v : M) → value ≡ Some v → PutsPair t t' key v
  entry_puts v is =
      puts_pair t t' a.node.prefix key w.full w.write.begins w.small entry_others v (record {
        slot = s;
        node = (answered a (byte_at a (bytes_of key)) (payload value)).node;
        here = tree_at t' s (answered a (byte_at a (bytes_of key)) (payload value)) (written_linked w.write root placed);
        same = refl;
        child = written_at w.write root placed ∙ ap payload is;
      })

  pub entry_takes : value ≡ None → TakesPair t t' key
  entry_takes is =
      takes_pair t t' a.node.prefix key w.full w.write.begins w.small entry_others (λ v h.
      let b : PlacedNode M = answered a (byte_at a (bytes_of key)) (payload value) in
      let after : tree_of t' s ≡ Some b.node = tree_at t' s b (written_linked w.write root placed) in
      let one : h.slot ≡ s = one_prefix (tree_of t') root entry_tree h.slot s h.node b.node h.here after h.same in
      let same : h.node ≡ b.node = some_same h.node b.node (sym h.here ∙ subst (λ z. tree_of t' z ≡ Some b.node) (sym one) after) in
      let there : lookup b.node.children (byte_at a (bytes_of key)) ≡ Some (Payload v) = subst (λ (z : TableNode M). lookup z.children (byte_at a (bytes_of key)) ≡ Some (Payload v)) same h.child in
      none_some (Payload v) (sym (written_at w.write root placed ∙ ap payload is) ∙ there))
