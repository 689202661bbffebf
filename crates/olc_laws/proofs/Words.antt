-- A WORD RISES: a free linked node is locked, a locked one is unlocked, a detached one is retired.
use Rattle.std.proofs.Common.{◌≡◌, ℕ, suc, ◌+◌, ◌≤◌, [], ◌∷◌, Option, Some, inl, inr, refl, sym, subst, ap, ◌∙◌, arith}
use Rattle.spec_olc.specs.Lock.{IsFree, IsLocked, IsObsolete}
use Rattle.olc_state.specs.inner.World.{is_private, is_linked, is_detached, is_retired, PlacedNode, NodeMap}
use Rattle.olc_state.specs.inner.Tables.{IsSafe, IsLinked, IsPlaced, NeedsHolder}
use Rattle.olc_state.proofs.Unlike.{linked_private, linked_retired, detached_retired}
use Rattle.olc_laws.proofs.Effects.{OthersStay, Effect, SameTree, same_tree_effect, same_tree_pairs}
use Rattle.olc_laws.proofs.Pairs.{SamePairs}
use Rattle.olc_laws.proofs.Slots.{changes, worded_here, free_obsolete, unretired, detached_private, free_needs, retired_needs}
use Rattle.olc_laws.proofs.Trees.{linked_in, when_linked, placed_worded}

up_two : (word : ℕ) → word ≤ word + 2
up_two word = omega arith

not_same : (word more : ℕ) → word + suc more ≡ word → ⊥
not_same word more e = omega (arith, e)

locked_of : (word : ℕ) → IsFree word → IsObsolete (word + 2) → ⊥
locked_of word free o = omega (arith, free, o)

freed : (word : ℕ) → IsLocked word → (IsObsolete word → ⊥) → IsFree (word + 2)
freed word locked fresh = omega (arith, locked, fresh)

ended : (word : ℕ) → IsLocked word → (IsObsolete word → ⊥) → IsObsolete (word + 1) × IsLocked (word + 1)
ended word locked fresh = (omega (arith, locked, fresh), omega (arith, locked, fresh))

module _ {M : Type 0} where
  -- a free linked node is locked
  pub record Upgrades (t t' : NodeMap M) (s : ℕ) (a : PlacedNode M) : Type 0 where
    pub here : IsLinked t s a
    pub free : IsFree a.word
    pub after : t' s ≡ Some (record a { word = a.word + 2 })
    pub others : OthersStay t t' (s ∷ [])

  -- a locked linked node is unlocked
  pub record Unlocks (t t' : NodeMap M) (s : ℕ) (a : PlacedNode M) : Type 0 where
    pub here : IsLinked t s a
    pub locked : IsLocked a.word
    pub after : t' s ≡ Some (record a { word = a.word + 2 })
    pub others : OthersStay t t' (s ∷ [])

  -- a locked detached node is retired with this stamp
  pub record Retires (t t' : NodeMap M) (s : ℕ) (a : PlacedNode M) (stamp : Option ℕ) : Type 0 where
    pub here : t s ≡ Some a
    pub detached : a.lifetime ≡ is_detached
    pub locked : IsLocked a.word
    pub after : t' s ≡ Some (record a { word = a.word + 1; lifetime = is_retired stamp })
    pub others : OthersStay t t' (s ∷ [])

  reworded_same : (t t' : NodeMap M) (s word : ℕ) (a : PlacedNode M) → t s ≡ Some a → t' s ≡ Some (record a { word = word }) → SameTree t t' s
  reworded_same t t' s word a here after = ap linked_in after ∙ sym (ap linked_in here)

  not_private : (a : PlacedNode M) → a.lifetime ≡ is_linked → a.lifetime ≡ is_private → ⊥
  not_private a l p = linked_private (sym l ∙ p)

  not_retired : (a : PlacedNode M) → a.lifetime ≡ is_linked → (stamp : Option ℕ) → a.lifetime ≡ is_retired stamp → ⊥
  not_retired a l stamp r = linked_retired stamp (sym l ∙ r)

  safe_linked : (a : PlacedNode M) (pin : ℕ) → a.lifetime ≡ is_linked → IsSafe pin a.lifetime
  safe_linked a pin l = subst (λ z. IsSafe pin z) (sym l) tt

  module _ {t t' : NodeMap M} {s : ℕ} {a : PlacedNode M} (u : Upgrades t t' s a) where
    pub upgraded_effect : (root : ℕ) (Mine May : ℕ → Type 0) → IsPlaced t root → Effect t t' root Mine May (s ∷ []) (s ∷ [])
    upgraded_effect root Mine May placed =
        let b : PlacedNode M = record a { word = a.word + 2 } in
        same_tree_effect t t' root Mine May (s ∷ []) (s ∷ []) placed u.others
        (reworded_same t t' s (a.word + 2) a u.here.here u.after, tt) (
          changes t t' Mine May s a b u.here.here u.after (not_private a u.here.lifetime) (worded_here b (inl u.here.lifetime) (locked_of a.word u.free)) refl (up_two a.word)
              (λ f e. absurd (not_same a.word 1 e)) (λ pin may. safe_linked a pin u.here.lifetime) (inr u.free),
          tt,
        )
        ((λ (need : NeedsHolder t' s). inl refl), tt)

    pub upgraded_pairs : SamePairs t t'
    upgraded_pairs = same_tree_pairs t t' (s ∷ []) u.others (reworded_same t t' s (a.word + 2) a u.here.here u.after, tt)

  module _ {t t' : NodeMap M} {s : ℕ} {a : PlacedNode M} (u : Unlocks t t' s a) where
    pub unlocked_effect : (root : ℕ) (Mine May : ℕ → Type 0) → IsPlaced t root → Mine s → Effect t t' root Mine May (s ∷ []) []
    unlocked_effect root Mine May placed mine =
        let b : PlacedNode M = record a { word = a.word + 2 } in
        let fresh : IsObsolete a.word → ⊥ = unretired a (placed_worded t root placed s a u.here.here) (not_retired a u.here.lifetime) in
        let free : IsFree (a.word + 2) = freed a.word u.locked fresh in
        same_tree_effect t t' root Mine May (s ∷ []) [] placed u.others
        (reworded_same t t' s (a.word + 2) a u.here.here u.after, tt) (
          changes t t' Mine May s a b u.here.here u.after (not_private a u.here.lifetime) (worded_here b (inl u.here.lifetime) (free_obsolete (a.word + 2) free)) refl (up_two a.word)
              (λ f e. absurd (not_same a.word 1 e)) (λ pin may. safe_linked a pin u.here.lifetime) (inl mine),
          tt,
        )
        (free_needs t' s b u.after u.here.lifetime free, tt)

    pub unlocked_pairs : SamePairs t t'
    unlocked_pairs = same_tree_pairs t t' (s ∷ []) u.others (reworded_same t t' s (a.word + 2) a u.here.here u.after, tt)

  module _ {t t' : NodeMap M} {s : ℕ} {a : PlacedNode M} {stamp : Option ℕ} (u : Retires t t' s a stamp) where
    retired_same : SameTree t t' s
    retired_same = ap linked_in u.after ∙ sym (ap linked_in u.here ∙ ap (λ z. when_linked z a.node) u.detached)

    -- calls may rely on it that began by the time of the stamp
    pub retired_effect : (root : ℕ) (Mine : ℕ → Type 0) → IsPlaced t root → Mine s → Effect t t' root Mine (λ pin. IsSafe pin (is_retired stamp)) (s ∷ []) []
    retired_effect root Mine placed mine =
        let b : PlacedNode M = record a { word = a.word + 1; lifetime = is_retired stamp } in
        let fresh : IsObsolete a.word → ⊥ = unretired a (placed_worded t root placed s a u.here) (λ at r. detached_retired at (sym u.detached ∙ r)) in
        let over = ended a.word u.locked fresh in
        same_tree_effect t t' root Mine (λ pin. IsSafe pin (is_retired stamp)) (s ∷ []) [] placed u.others
        (retired_same, tt) (
          changes t t' Mine (λ pin. IsSafe pin (is_retired stamp)) s a b u.here u.after (λ p. detached_private (sym u.detached ∙ p))
              (record { free = λ f. absurd (free_obsolete (a.word + 1) f over.0); locked = λ o. over.1; obsolete = ((λ (o : IsObsolete b.word). (stamp, refl)), (λ r. over.0)) })
              refl (omega arith) (λ f e. absurd (not_same a.word 0 e)) (λ pin may. may) (inl mine),
          tt,
        )
        (retired_needs t' s b stamp u.after refl over.0, tt)

    pub retired_pairs : SamePairs t t'
    retired_pairs = same_tree_pairs t t' (s ∷ []) u.others (retired_same, tt)
