-- SEVERAL NODES OF A STOCK CHANGE IN PLACE at once: its nodes are still admitted and charged, at slots below 2^64.
use Rattle.std.proofs.Common.{◌≡◌, ℕ, List, Option, Some, inl, inr, sym, subst, ap, ◌∙◌}
use Rattle.olc_words.specs.Epoch.{entry_at}
use Rattle.olc_words.specs.declared.epoch.Life.{Life}
use Rattle.olc_state.specs.declared.stock.Stock.{Stock}
use Rattle.olc_state.specs.inner.Facts.{IsAdmitted, AllAdmitted, stored_sizes}
use Rattle.olc_state.specs.inner.Stocks.{IsStoreSound, SlotsFitU64, table_in}
use Rattle.olc_state.specs.inner.Tables.{IsIn, IsPlaced}
use Rattle.olc_state.specs.inner.World.{PlacedNode, NodeMap, is_retired}
use Rattle.node_table.specs.Charge.{Charge, Covers}
use Rattle.olc_state.proofs.Options.{none_some}
use Rattle.olc_laws.proofs.Effects.{OthersStay, in_or}

module _ {M : Type 0} where
  -- a slot has a node that isn't retired, and still has one
  pub record StandsStill (t t' : NodeMap M) (s : ℕ) : Type 0 where
    pub was : PlacedNode M
    pub here : t s ≡ Some was
    pub fresh : (stamp : Option ℕ) → was.lifetime ≡ is_retired stamp → ⊥
    pub now : PlacedNode M
    pub there : t' s ≡ Some now

  admitted_still : (t t' : NodeMap M) (s : ℕ) (life : Option Life) → StandsStill t t' s → IsAdmitted (t s) life → IsAdmitted (t' s) life
  admitted_still t t' s life h before =
      subst (λ x. IsAdmitted x life) (sym h.there) (elim (subst (λ x. IsAdmitted x life) h.here before) [
        | inl used ↦ inl used
        | inr r ↦ absurd (h.fresh r.0 r.1)
      ])

  module _ (t t' : NodeMap M) (written : List ℕ) (others : OthersStay t t' written) (stand : (s : ℕ) → IsIn s written → StandsStill t t' s) where
    pub still_admitted : (lives : List (ℕ × Life)) → AllAdmitted t lives → AllAdmitted t' lives
    still_admitted lives before s =
        elim (in_or s written) [
          | inl one ↦ admitted_still t t' s (entry_at lives s) (stand s one) (before s)
          | inr out ↦ subst (λ x. IsAdmitted x (entry_at lives s)) (sym (others s out)) (before s)
        ]

    pub still_narrow : SlotsFitU64 t → SlotsFitU64 t'
    still_narrow before s some =
        elim (in_or s written) [
          | inl one ↦ let h = stand s one in before s (λ e. none_some h.was (sym e ∙ h.here))
          | inr out ↦ before s (λ e. some (others s out ∙ e))
        ]

module _ {P A M : Type 0} (meaning : P → M) (charge : A → Option Charge) where
  -- where pins, sizes and the budget stay
  pub still_kept : (old new : Stock P A) (written : List ℕ) → IsStoreSound meaning charge old → OthersStay (table_in meaning charge old) (table_in meaning charge new) written
      → ((s : ℕ) → IsIn s written → StandsStill (table_in meaning charge old) (table_in meaning charge new) s)
      → IsPlaced (table_in meaning charge new) new.store.root → new.store.pins ≡ old.store.pins → stored_sizes new.store.nodes.slots ≡ stored_sizes old.store.nodes.slots
      → new.budget ≡ old.budget → IsStoreSound meaning charge new
  still_kept old new written kept others stand placed lives sizes budget = record {
    placed = placed;
    admitted = subst (λ (z : List (ℕ × Life)). AllAdmitted (table_in meaning charge new) z) (sym (ap (λ z. z.slots) lives))
        (still_admitted (table_in meaning charge old) (table_in meaning charge new) written others stand old.store.pins.slots kept.admitted);
    narrow = still_narrow (table_in meaning charge old) (table_in meaning charge new) written others stand kept.narrow;
    covered = subst (λ (b : A). Covers (charge b) (stored_sizes new.store.nodes.slots)) (sym budget) (subst (λ n. Covers (charge old.budget) n) (sym sizes) kept.covered);
  }
