-- A FREE NODE GETS ANOTHER FREE WORD while no call is in flight: the inside is sound again.
use Rattle.std.proofs.Common.{◌≡◌, ◌≢◌, ℕ, ◌≤◌, ◌<◌, ◌^◌, Bool, List, [], ◌∷◌, length, Option, Some, inl, inr, refl, sym, subst, ap, ◌∙◌, arith}
use Rattle.std.proofs.lemmas.Bool.Decides.{eqb_tells}
use Rattle.node_table.specs.Charge.{Covers}
use Rattle.spec_olc.specs.Lock.{IsFree, IsLocked}
use Rattle.olc_words.specs.Epoch.{entry_at}
use Rattle.olc_state.specs.declared.stage.Record.{Record}
use Rattle.olc_state.specs.declared.stage.Stored.{Stored}
use Rattle.olc_state.specs.inner.Facts.{IsAdmitted, IsSoundWorld, stored_sizes}
use Rattle.olc_state.specs.inner.Shown.{state_of}
use Rattle.olc_state.specs.inner.Tables.{IsPlaced, NeedsHolder}
use Rattle.olc_state.specs.inner.World.{World, PlacedNode, NodeMap, is_linked, record_in, record_of, table_of}
use Rattle.olc_state.proofs.Options.{none_some, some_same}
use Rattle.olc_state.proofs.States.{shows}
use Rattle.olc_state.proofs.Unlike.{linked_private}
use Rattle.olc_laws.proofs.Contents.{content_same}
use Rattle.olc_laws.proofs.Effects.{Effect, OthersStay, SameTree, beside_one, same_tree_effect, same_tree_pairs}
use Rattle.olc_laws.proofs.Pairs.{SamePairs}
use Rattle.olc_laws.proofs.Slots.{changes, worded_here, free_obsolete, free_locked}
use Rattle.olc_laws.proofs.Trees.{linked_in}

pub no_entry : {X : Type 0} (xs : List X) → length xs ≡ 0 → xs ≡ []
no_entry [] e = refl
no_entry (x ∷ xs) e = absurd (omega (arith, e))

abbrev no_one : ℕ → Type 0
no_one n = ⊥

module _ {M : Type 0} (t t' : NodeMap M) (s word : ℕ) (a : PlacedNode M) (here : t s ≡ Some a) (linked : a.lifetime ≡ is_linked) (free : IsFree a.word)
    (next : IsFree word) (up : a.word ≤ word) (after : t' s ≡ Some (record a { word = word })) (others : OthersStay t t' (s ∷ [])) where
  needs_none : NeedsHolder t' s → ⊥
  needs_none need =
      let b : PlacedNode M = record a { word = word } in
      let is : b ≡ need.node = some_same b need.node (sym after ∙ need.here) in
      elim need.why [
        | inl private ↦ linked_private (sym linked ∙ (ap (λ (z : PlacedNode M). z.lifetime) is ∙ private))
        | inr locked ↦ free_locked word next (subst (λ (z : PlacedNode M). IsLocked z.word) (sym is) locked.0)
      ]

  same : SameTree t t' s
  same = ap linked_in after ∙ sym (ap linked_in here)

  pub aged_effect : (root : ℕ) → IsPlaced t root → Effect t t' root no_one no_one (s ∷ []) []
  aged_effect root placed =
      let b : PlacedNode M = record a { word = word } in
      same_tree_effect t t' root no_one no_one (s ∷ []) [] placed others (same, tt) (
        changes t t' no_one no_one s a b here after (λ p. linked_private (sym linked ∙ p)) (worded_here b (inl linked) (free_obsolete word next)) refl up
            (λ f e. refl) (λ pin may. absurd may) (inr free),
        tt,
      )
      ((λ (need : NeedsHolder t' s). absurd (needs_none need)), tt)

  pub aged_pairs : SamePairs t' t
  aged_pairs = same_tree_pairs t' t (s ∷ []) (λ o out. sym (others o out)) (sym same, tt)

module _ {M : Type 0} (Granted : Type 0) (equal : M → M → Bool) (w : World M) (slots : List (Option (Stored M))) (sound : IsSoundWorld Granted equal w) (idle : w.calls ≡ [])
    (s word : ℕ) (a : PlacedNode M) (here : table_of w s ≡ Some a) (free : IsFree a.word) (next : IsFree word) (up : a.word ≤ word)
    (after : table_of (record w { slots = slots }) s ≡ Some (record a { word = word })) (others : (o : ℕ) → o ≢ s → table_of (record w { slots = slots }) o ≡ table_of w o)
    (sizes : stored_sizes slots ≡ stored_sizes w.slots) where
  no_record : (id : ℕ) (r : Record M) → record_of w id ≡ Some r → ⊥
  no_record id r e = none_some r (sym (ap (λ l. record_in (entry_at l id)) idle) ∙ e)

  linked : a.lifetime ≡ is_linked
  linked = elim (sound.placed.free s a here free) [
    | inl l ↦ l
    | inr p ↦
        let h = sound.held s (record { node = a; here = here; why = inl p }) in
        absurd (no_record h.0 h.1 h.2)
  ]

  pub aged : IsSoundWorld Granted equal (record w { slots = slots })
  aged =
      let w' : World M = record w { slots = slots } in
      let t : NodeMap M = table_of w in
      let t' : NodeMap M = table_of w' in
      let stay : OthersStay t t' (s ∷ []) = beside_one t t' s others in
      let e : Effect t t' w.root no_one no_one (s ∷ []) [] = aged_effect t t' s word a here linked free next up after stay w.root sound.placed in
      let pairs : SamePairs t' t = aged_pairs t t' s word a here linked free next up after stay in
      record {
        placed = e.placed;
        facts = λ id pin r found f. absurd (no_record id r found);
        pinned = λ id r found. absurd (no_record id r found);
        called = sound.called;
        numbered = sound.numbered;
        seated = sound.seated;
        before = sound.before;
        apart = sound.apart;
        held = λ o need. elim (e.needs o need) [ inl named ↦ absurd named | inr old ↦ sound.held o old.0 ];
        admitted = λ o. elim (eqb_tells o s) [
          | inl at ↦ subst (λ z. IsAdmitted (t' z) (entry_at w.pins.slots z)) (sym at.1)
              (subst (λ (x : Option (PlacedNode M)). IsAdmitted x (entry_at w.pins.slots s)) (sym after)
              (subst (λ (x : Option (PlacedNode M)). IsAdmitted x (entry_at w.pins.slots s)) here (sound.admitted s)))
          | inr off ↦ subst (λ (x : Option (PlacedNode M)). IsAdmitted x (entry_at w.pins.slots o)) (sym (others o off.1)) (sound.admitted o)
        ];
        narrow = λ o c found. elim (eqb_tells o s) [
          | inl at ↦ subst (λ z. z < 2 ^ 64) (sym at.1) (sound.narrow s a here)
          | inr off ↦ sound.narrow o c (sym (others o off.1) ∙ found)
        ];
        charged = subst (λ n. Covers w.charge n) (sym sizes) sound.charged;
        counted = λ m c. sound.counted m (content_same t' t w.root (state_of w') (state_of w) e.placed sound.placed (shows w') (shows w) pairs m c);
      }
