-- A NODE IS ADDED OR FREED beside the tree: a private one is made, private ones are freed, a retired one is reclaimed.
use Rattle.std.proofs.Common.{◌≡◌, ℕ, List, [], ◌∷◌, Some, None, inl, inr, refl, sym, subst, ap, ◌∙◌}
use Rattle.spec_olc.specs.Lock.{IsFree}
use Rattle.olc_state.specs.inner.World.{is_private, PlacedNode, NodeMap}
use Rattle.olc_state.specs.inner.Tables.{IsIn, IsPlaced, NeedsHolder}
use Rattle.olc_state.proofs.Options.{some_same, none_some}
use Rattle.olc_laws.proofs.Effects.{AllIn, all_of, OthersStay, Effect, SameTree, same_tree_effect, same_tree_pairs}
use Rattle.olc_laws.proofs.Pairs.{SamePairs}
use Rattle.olc_laws.proofs.Slots.{StepsAt, comes, owned, worded_here, free_obsolete, none_needs}
use Rattle.olc_laws.proofs.Trees.{IsWorded, linked_in, when_linked}

module _ {M : Type 0} where
  -- a private node is put into an empty slot
  pub record Makes (t t' : NodeMap M) (s : ℕ) (b : PlacedNode M) : Type 0 where
    pub empty : t s ≡ None
    pub private : b.lifetime ≡ is_private
    pub free : IsFree b.word
    pub after : t' s ≡ Some b
    pub others : OthersStay t t' (s ∷ [])

  -- a private node of the call is freed
  pub record IsGivenBack (t t' : NodeMap M) (Mine : ℕ → Type 0) (s : ℕ) : Type 0 where
    pub node : PlacedNode M
    pub here : t s ≡ Some node
    pub private : node.lifetime ≡ is_private
    pub mine : Mine s
    pub gone : t' s ≡ None

  pub record GivesBack (t t' : NodeMap M) (Mine : ℕ → Type 0) (slots : List ℕ) : Type 0 where
    pub each : AllIn (IsGivenBack t t' Mine) slots
    pub others : OthersStay t t' slots

  made_same : {t t' : NodeMap M} {s : ℕ} {b : PlacedNode M} → Makes t t' s b → SameTree t t' s
  made_same {b = b} m = ap linked_in m.after ∙ (ap (λ z. when_linked z b.node) m.private ∙ sym (ap linked_in m.empty))

  back_same : (t t' : NodeMap M) (Mine : ℕ → Type 0) (s : ℕ) → IsGivenBack t t' Mine s → SameTree t t' s
  back_same t t' Mine s g = ap linked_in g.gone ∙ sym (ap linked_in g.here ∙ ap (λ z. when_linked z g.node.node) g.private)

  back_steps : (t t' : NodeMap M) (Mine May : ℕ → Type 0) (s : ℕ) → IsGivenBack t t' Mine s → StepsAt t t' Mine May s
  back_steps t t' Mine May s g = owned t t' Mine May s g.node g.here g.private g.mine (λ b h. absurd (none_some b (sym g.gone ∙ h)))

  pub made_effect : {t t' : NodeMap M} {s : ℕ} {b : PlacedNode M} → Makes t t' s b → (root : ℕ) (Mine May : ℕ → Type 0) → IsPlaced t root → Effect t t' root Mine May (s ∷ []) (s ∷ [])
  made_effect {t} {t'} {s} {b} m root Mine May placed =
      same_tree_effect t t' root Mine May (s ∷ []) (s ∷ []) placed m.others (made_same m, tt)
      (comes t t' Mine May s m.empty (λ c h. subst (λ (z : PlacedNode M). IsWorded z) (some_same b c (sym m.after ∙ h)) (worded_here b (inr m.private) (free_obsolete b.word m.free))), tt)
      ((λ (need : NeedsHolder t' s). inl refl), tt)

  pub made_pairs : {t t' : NodeMap M} {s : ℕ} {b : PlacedNode M} → Makes t t' s b → SamePairs t t'
  made_pairs {t} {t'} {s} m = same_tree_pairs t t' (s ∷ []) m.others (made_same m, tt)

  pub given_back_effect : {t t' : NodeMap M} {Mine : ℕ → Type 0} {slots : List ℕ} → GivesBack t t' Mine slots → (root : ℕ) (May : ℕ → Type 0) → IsPlaced t root → Effect t t' root Mine May slots []
  given_back_effect {t} {t'} {Mine} {slots} g root May placed =
      same_tree_effect t t' root Mine May slots [] placed g.others
      (all_of (IsGivenBack t t' Mine) (SameTree t t') slots (back_same t t' Mine) g.each)
      (all_of (IsGivenBack t t' Mine) (StepsAt t t' Mine May) slots (back_steps t t' Mine May) g.each)
      (all_of (IsGivenBack t t' Mine) (λ s. NeedsHolder t' s → IsIn s []) slots (λ s b. none_needs t' s b.gone) g.each)

  pub given_back_pairs : {t t' : NodeMap M} {Mine : ℕ → Type 0} {slots : List ℕ} → GivesBack t t' Mine slots → SamePairs t t'
  given_back_pairs {t} {t'} {Mine} {slots} g = same_tree_pairs t t' slots g.others (all_of (IsGivenBack t t' Mine) (SameTree t t') slots (back_same t t' Mine) g.each)
