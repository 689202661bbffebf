-- A node is added to the stock, or freed: the stock stays sound, and which event of its call that is.
use Rattle.std.proofs.Common.{◌≡◌, ◌≢◌, ℕ, ◌+◌, ◌^◌, ◌<◌, [], ◌∷◌, Option, Some, None, inl, inr, refl, sym, subst, ap, ◌∙◌, arith}
use Rattle.std.proofs.lemmas.Bool.Decides.{eqb_tells}
use Rattle.node_base.specs.Form.{stated_size}
use Rattle.node_base.specs.declared.base_node.NodeType.{NodeType}
use Rattle.node_table.specs.Charge.{Charge, Covers, add_charge}
use Rattle.spec_node.specs.TableNode.{TableNode}
use Rattle.olc_state.specs.declared.stock.Stock.{Stock}
use Rattle.olc_state.specs.inner.Facts.{AllAdmitted, stored_sizes}
use Rattle.olc_state.specs.inner.Slots.{SetsNode, made_node}
use Rattle.olc_state.specs.inner.Stocks.{IsStoreSound, SlotsFitU64, table_in}
use Rattle.olc_state.specs.inner.Tables.{IsPlaced}
use Rattle.olc_state.specs.inner.World.{PlacedNode, NodeMap, is_private}
use Rattle.olc_laws.proofs.Effects.{beside_one}
use Rattle.olc_laws.proofs.Making.{GivesBack, Makes, given_back_effect, made_effect}
use Rattle.olc_write.specs.inner.Makings.{AddsPrivate, GivesUp, IsPrivate, SameRest}

covers_more : (charge : Option Charge) (size more : ℕ) → Covers charge size → Covers (add_charge charge more) (size + more)
covers_more None size more c = tt
covers_more (Some n) size more c = omega (arith, c)

covers_less : (charge : Option Charge) (size more : ℕ) → Covers (add_charge charge more) (size + more) → Covers charge size
covers_less None size more c = tt
covers_less (Some n) size more c = omega (arith, c)

module _ {M : Type 0} (t t' : NodeMap M) where
  pub made_of : (slot : ℕ) (a : TableNode M) → t slot ≡ None → t' slot ≡ Some (made_node a) → ((o : ℕ) → o ≢ slot → t' o ≡ t o) → Makes t t' slot (made_node a)
  made_of slot a empty here others = record { empty = empty; private = refl; free = omega arith; after = here; others = beside_one t t' slot others }

  -- a node that is added or freed leaves all others
  placed_more : (root slot : ℕ) (a : TableNode M) → IsPlaced t root → t slot ≡ None → t' slot ≡ Some (made_node a) → ((o : ℕ) → o ≢ slot → t' o ≡ t o) → IsPlaced t' root
  placed_more root slot a placed empty here others = (made_effect (made_of slot a empty here others) root (λ s. Unit {0}) (λ s. Unit {0}) placed).placed

  placed_less : (root slot : ℕ) (a : PlacedNode M) → IsPlaced t root → t slot ≡ Some a → a.lifetime ≡ is_private → t' slot ≡ None → ((o : ℕ) → o ≢ slot → t' o ≡ t o) → IsPlaced t' root
  placed_less root slot a placed here private after others =
      let back : GivesBack t t' (λ s. Unit {0}) (slot ∷ []) = record {
        each = (record { node = a; here = here; private = private; mine = tt; gone = after }, tt);
        others = beside_one t t' slot others;
      } in
      (given_back_effect back root (λ s. Unit {0}) placed).placed

  narrow_more : (slot : ℕ) → slot < 2 ^ 64 → SlotsFitU64 t → ((o : ℕ) → o ≢ slot → t' o ≡ t o) → SlotsFitU64 t'
  narrow_more slot small narrow others s there =
      elim (eqb_tells s slot) [
        | inl e ↦ subst (λ (z : ℕ). z < 2 ^ 64) (sym e.1) small
        | inr far ↦ narrow s (λ none. there (others s far.1 ∙ none))
      ]

  narrow_less : (slot : ℕ) → SlotsFitU64 t → t' slot ≡ None → ((o : ℕ) → o ≢ slot → t' o ≡ t o) → SlotsFitU64 t'
  narrow_less slot narrow after others s there =
      elim (eqb_tells s slot) [
        | inl e ↦ absurd (there (subst (λ (z : ℕ). t' z ≡ None) (sym e.1) after))
        | inr far ↦ narrow s (λ none. there (others s far.1 ∙ none))
      ]

module _ {P A M : Type 0} (meaning : P → M) (charge : A → Option Charge) (old new : Stock P A) (kept : IsStoreSound meaning charge old) where
  pub added : (slot : ℕ) (a : TableNode M) → slot < 2 ^ 64 → table_in meaning charge old slot ≡ None → SetsNode meaning old.store new.store slot (Some (made_node a))
      → stored_sizes new.store.nodes.slots ≡ stored_sizes old.store.nodes.slots + stated_size a.form → AllAdmitted (table_in meaning charge new) new.store.pins.slots
      → charge new.budget ≡ add_charge (charge old.budget) (stated_size a.form) → new.entries ≡ old.entries → AddsPrivate meaning charge old new slot a
  added slot a small empty sets sizes admitted charged entries = record {
    rest = record {
      kept = record {
        placed = subst (λ (r : ℕ). IsPlaced (table_in meaning charge new) r) (sym sets.root)
            (placed_more (table_in meaning charge old) (table_in meaning charge new) old.store.root slot a kept.placed empty sets.here sets.others);
        admitted = admitted;
        narrow = narrow_more (table_in meaning charge old) (table_in meaning charge new) slot small kept.narrow sets.others;
        covered = rw (charged, sizes) (covers_more (charge old.budget) (stored_sizes old.store.nodes.slots) (stated_size a.form) kept.covered);
      };
      root = sets.root;
      seats = sets.seats;
      count = sets.count;
      entries = entries;
    };
    empty = empty;
    here = sets.here;
    others = sets.others;
    charged = charged;
  }

  -- a private node is freed
  pub taken : (slot : ℕ) (form : NodeType) (p : IsPrivate meaning charge old slot) → SetsNode meaning old.store new.store slot None → p.node.node.form ≡ form
      → stored_sizes old.store.nodes.slots ≡ stored_sizes new.store.nodes.slots + stated_size form → AllAdmitted (table_in meaning charge new) new.store.pins.slots
      → charge old.budget ≡ add_charge (charge new.budget) (stated_size form) → new.entries ≡ old.entries → GivesUp meaning charge old new (Some slot)
  taken slot form p sets is sizes admitted charged entries = record {
    rest = record {
      kept = record {
        placed = subst (λ (r : ℕ). IsPlaced (table_in meaning charge new) r) (sym sets.root)
            (placed_less (table_in meaning charge old) (table_in meaning charge new) old.store.root slot p.node kept.placed p.here p.lifetime sets.here sets.others);
        admitted = admitted;
        narrow = narrow_less (table_in meaning charge old) (table_in meaning charge new) slot kept.narrow sets.here sets.others;
        covered = covers_less (charge new.budget) (stored_sizes new.store.nodes.slots) (stated_size form)
            (subst (λ (c : Option Charge). Covers c (stored_sizes new.store.nodes.slots + stated_size form)) charged
            (subst (λ (n : ℕ). Covers (charge old.budget) n) sizes kept.covered));
      };
      root = sets.root;
      seats = sets.seats;
      count = sets.count;
      entries = entries;
    };
    up = record {
      node = p.node;
      here = p.here;
      private = p.lifetime;
      after = sets.here;
      others = sets.others;
      charged = charged ∙ ap (λ (f : NodeType). add_charge (charge new.budget) (stated_size f)) (sym is);
    };
  }

-- no node is added, and then what was made is freed
module _ {P A M : Type 0} (meaning : P → M) (charge : A → Option Charge) (old mid new : Stock P A) where
  rest_on : SameRest meaning charge old mid → SameRest meaning charge mid new → SameRest meaning charge old new
  rest_on a b = record { kept = b.kept; root = b.root ∙ a.root; seats = b.seats ∙ a.seats; count = b.count ∙ a.count; entries = b.entries ∙ a.entries }

  pub given_after : (slot : ℕ) → GivesUp meaning charge old mid None → GivesUp meaning charge mid new (Some slot) → GivesUp meaning charge old new (Some slot)
  given_after slot none g = record {
    rest = rest_on none.rest g.rest;
    up = record {
      node = g.up.node;
      here = sym (none.up.nodes slot) ∙ g.up.here;
      private = g.up.private;
      after = g.up.after;
      others = λ o ne. g.up.others o ne ∙ none.up.nodes o;
      charged = sym none.up.charged ∙ g.up.charged;
    };
  }
