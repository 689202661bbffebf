-- ONE NODE AFTER ANOTHER IS MARKED LINKED in a store.
use Rattle.std.proofs.Common.{◌≡◌, ◌≢◌, ℕ, List, [], ◌∷◌, Some, ◌⊎◌, inl, inr, refl, sym, subst, ◌∙◌}
use Rattle.std.proofs.lemmas.Bool.Decides.{eqb_tells}
use Rattle.olc_state.specs.declared.store.Store.{Store}
use Rattle.olc_state.specs.inner.Meant.{meant_table}
use Rattle.olc_state.specs.inner.Slots.{SetsNode}
use Rattle.olc_state.specs.inner.Tables.{IsIn}
use Rattle.olc_state.specs.inner.World.{PlacedNode, is_linked}

module _ {P M : Type 0} (meaning : P → M) where
  -- the node in this slot is linked
  abbrev pub Linked : Store P → Store P → ℕ → Type 0
  Linked old new slot = (a : PlacedNode M) → meant_table meaning old slot ≡ Some a → SetsNode meaning old new slot (Some (record a { lifetime = is_linked }))

  abbrev pub AreThere : Store P → List ℕ → Type 0
  AreThere store slots = (s : ℕ) → IsIn s slots → (a : PlacedNode M) × (meant_table meaning store s ≡ Some a)

  module _ (s0 s1 : Store P) (node : ℕ) (there : (a : PlacedNode M) × (meant_table meaning s0 node ≡ Some a)) (links : Linked s0 s1 node) where
    pub one_linked : (a : PlacedNode M) → meant_table meaning s0 node ≡ Some a → meant_table meaning s1 node ≡ Some (record a { lifetime = is_linked })
    one_linked a here = (links a here).here

    pub one_others : (s : ℕ) → s ≢ node → meant_table meaning s1 s ≡ meant_table meaning s0 s
    one_others s far = (links there.0 there.1).others s far

    pub one_root : s1.root ≡ s0.root
    one_root = (links there.0 there.1).root

    -- each other node is unchanged
    pub after_one : (s : ℕ) (a : PlacedNode M) → meant_table meaning s0 s ≡ Some a
        → ((s ≡ node) × (meant_table meaning s1 s ≡ Some (record a { lifetime = is_linked }))) ⊎ ((s ≢ node) × (meant_table meaning s1 s ≡ Some a))
    after_one s a here =
        elim (eqb_tells s node) [
          | inl e ↦ inl (e.1, subst (λ z. meant_table meaning s1 z ≡ Some (record a { lifetime = is_linked })) (sym e.1) (one_linked a (subst (λ z. meant_table meaning s0 z ≡ Some a) e.1 here)))
          | inr far ↦ inr (far.1, one_others s far.1 ∙ here)
        ]

    pub still_there : (s : ℕ) → (a : PlacedNode M) × (meant_table meaning s0 s ≡ Some a) → (b : PlacedNode M) × (meant_table meaning s1 s ≡ Some b)
    still_there s x =
        elim (after_one s x.0 x.1) [
          | inl e ↦ (record x.0 { lifetime = is_linked }, e.1)
          | inr e ↦ (x.0, e.1)
        ]

  module _ (s0 s1 s2 : Store P) (node leaf : ℕ) (there : AreThere s0 (node ∷ leaf ∷ [])) (first : Linked s0 s1 node) (second : Linked s1 s2 leaf) where
    here_too : (b : PlacedNode M) × (meant_table meaning s1 leaf ≡ Some b)
    here_too = still_there s0 s1 node (there node (inl refl)) first leaf (there leaf (inr (inl refl)))

    -- both are linked
    pub two_linked : (s : ℕ) (a : PlacedNode M) → IsIn s (node ∷ leaf ∷ []) → meant_table meaning s0 s ≡ Some a → meant_table meaning s2 s ≡ Some (record a { lifetime = is_linked })
    two_linked s a h here =
        elim (after_one s0 s1 node (there node (inl refl)) first s a here) [
          | inl e ↦
              elim (after_one s1 s2 leaf here_too second s (record a { lifetime = is_linked }) e.1) [
                | inl f ↦ f.1
                | inr f ↦ f.1
              ]
          | inr e ↦
              elim (after_one s1 s2 leaf here_too second s a e.1) [
                | inl f ↦ f.1
                | inr f ↦ absurd (elim h [ inl i ↦ e.0 (sym i) | inr (inl i) ↦ f.0 (sym i) | inr (inr none) ↦ none ])
              ]
        ]

    pub two_others : (s : ℕ) → (IsIn s (node ∷ leaf ∷ []) → ⊥) → meant_table meaning s2 s ≡ meant_table meaning s0 s
    two_others s out =
        one_others s1 s2 leaf here_too second s (λ e. out (inr (inl (sym e))))
        ∙ one_others s0 s1 node (there node (inl refl)) first s (λ e. out (inl (sym e)))

    pub two_root : s2.root ≡ s0.root
    two_root = one_root s1 s2 leaf here_too second ∙ one_root s0 s1 node (there node (inl refl)) first
