-- A STOCK IN WHICH NO NODE IS ADDED OR FREED: its nodes stay admitted and charged.
use Rattle.std.proofs.Common.{◌≡◌, ℕ, Option, Some, inl, inr, sym, subst, ap, ◌∙◌}
use Rattle.std.proofs.lemmas.Bool.Decides.{eqb_tells}
use Rattle.node_table.specs.Charge.{Charge, Covers}
use Rattle.olc_words.specs.Epoch.{PinsView, entry_at}
use Rattle.olc_words.specs.declared.epoch.Life.{Life}
use Rattle.olc_state.specs.declared.stock.Stock.{Stock}
use Rattle.olc_state.specs.declared.store.Store.{Store}
use Rattle.olc_state.specs.inner.Facts.{stored_sizes, AllAdmitted, IsAdmitted}
use Rattle.olc_state.specs.inner.Meant.{meant_table}
use Rattle.olc_state.specs.inner.Slots.{SetsNode}
use Rattle.olc_state.specs.inner.Stocks.{IsStoreSound, SlotsFitU64, table_in}
use Rattle.olc_state.specs.inner.Tables.{IsPlaced}
use Rattle.olc_state.specs.inner.World.{PlacedNode, is_retired}
use Rattle.olc_state.proofs.Options.{none_some}

module _ {P M : Type 0} (meaning : P → M) where
  -- what a change of a store keeps
  pub record StoreKeeps (old new : Store P) : Type 0 where
    pub admitted : AllAdmitted (meant_table meaning old) old.pins.slots → AllAdmitted (meant_table meaning new) new.pins.slots
    pub narrow : SlotsFitU64 (meant_table meaning old) → SlotsFitU64 (meant_table meaning new)
    pub sizes : stored_sizes new.nodes.slots ≡ stored_sizes old.nodes.slots
    pub root : new.root ≡ old.root
    pub seats : new.pins.seats ≡ old.pins.seats
    pub count : new.pins.count ≡ old.pins.count

  pub keeps_then : (a b c : Store P) → StoreKeeps a b → StoreKeeps b c → StoreKeeps a c
  keeps_then a b c f g = record {
    admitted = λ h. g.admitted (f.admitted h);
    narrow = λ h. g.narrow (f.narrow h);
    sizes = g.sizes ∙ f.sizes;
    root = g.root ∙ f.root;
    seats = g.seats ∙ f.seats;
    count = g.count ∙ f.count;
  }

  -- a node that isn't retired stays admitted when another takes its place
  in_use : (a b : PlacedNode M) (life : Option Life) → ((stamp : Option ℕ) → a.lifetime ≡ is_retired stamp → ⊥) → IsAdmitted (Some a) life → IsAdmitted (Some b) life
  in_use a b life live h = elim h [ inl used ↦ inl used | inr out ↦ absurd (live out.0 out.1) ]

  pub sets_keeps : (old new : Store P) (slot : ℕ) (a b : PlacedNode M) → meant_table meaning old slot ≡ Some a → ((stamp : Option ℕ) → a.lifetime ≡ is_retired stamp → ⊥)
      → SetsNode meaning old new slot (Some b) → stored_sizes new.nodes.slots ≡ stored_sizes old.nodes.slots → new.pins ≡ old.pins → StoreKeeps old new
  sets_keeps old new slot a b here live sets sizes pins = record {
    admitted = λ h o.
        let life : entry_at new.pins.slots o ≡ entry_at old.pins.slots o = ap (λ (p : PinsView). entry_at p.slots o) pins in
        subst (λ (l : Option Life). IsAdmitted (meant_table meaning new o) l) (sym life) (elim (eqb_tells o slot) [
          | inl same ↦ subst (λ z. IsAdmitted (meant_table meaning new z) (entry_at old.pins.slots z)) (sym same.1)
              (subst (λ (x : Option (PlacedNode M)). IsAdmitted x (entry_at old.pins.slots slot)) (sym sets.here)
              (in_use a b (entry_at old.pins.slots slot) live (subst (λ (x : Option (PlacedNode M)). IsAdmitted x (entry_at old.pins.slots slot)) here (h slot))))
          | inr far ↦ subst (λ (x : Option (PlacedNode M)). IsAdmitted x (entry_at old.pins.slots o)) (sym (sets.others o far.1)) (h o)
        ]);
    narrow = λ h o there. elim (eqb_tells o slot) [
      | inl same ↦ h o (λ none. none_some a (sym none ∙ subst (λ z. meant_table meaning old z ≡ Some a) (sym same.1) here))
      | inr far ↦ h o (λ none. there (sets.others o far.1 ∙ none))
    ];
    sizes = sizes;
    root = sets.root;
    seats = sets.seats;
    count = sets.count;
  }

  pub kept_by : {A : Type 0} (charge : A → Option Charge) (old new : Stock P A) → IsStoreSound meaning charge old → StoreKeeps old.store new.store → new.budget ≡ old.budget
      → IsPlaced (table_in meaning charge new) old.store.root → IsStoreSound meaning charge new
  kept_by {A} charge old new kept keeps budget placed = record {
    placed = subst (λ z. IsPlaced (table_in meaning charge new) z) (sym keeps.root) placed;
    admitted = keeps.admitted kept.admitted;
    narrow = keeps.narrow kept.narrow;
    covered = subst (λ (b : A). Covers (charge b) (stored_sizes new.store.nodes.slots)) (sym budget) (subst (λ n. Covers (charge old.budget) n) (sym keeps.sizes) kept.covered);
  }
