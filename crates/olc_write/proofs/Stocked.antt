-- AN EVENT as the code makes it: the stock after it is sound, and its tables and counts are those of the event.
use Rattle.std.proofs.Common.{◌≡◌, ◌≢◌, ℕ, ◌+◌, Bool, [], Option, Some, inl, inr, refl, sym, subst, ap, ◌∙◌}
use Rattle.std.proofs.lemmas.Bool.Decides.{eqb_tells}
use Rattle.node_table.specs.Charge.{Charge, Covers}
use Rattle.spec_olc.specs.Meaning.{env_of, outcome_of}
use Rattle.spec_olc.specs.declared.types.Env.{Env}
use Rattle.spec_olc.specs.declared.types.Outcome.{Outcome}
use Rattle.spec_olc.specs.declared.types.Report.{Report}
use Rattle.olc_words.specs.Epoch.{PinsView}
use Rattle.spec_olc.specs.Retirement.{count_after, stamp_at}
use Rattle.spec_olc.specs.Lock.{IsLocked, MayUpgrade}
use Rattle.olc_state.specs.declared.stage.Record.{Record}
use Rattle.olc_state.specs.declared.stage.Spot.{Spot}
use Rattle.olc_state.specs.declared.stock.Stock.{Stock}
use Rattle.olc_state.specs.declared.store.Store.{Store}
use Rattle.olc_state.specs.inner.Facts.{stored_sizes, AllAdmitted}
use Rattle.olc_state.specs.inner.Meant.{meant_record, meant_table}
use Rattle.olc_state.specs.inner.Moves.{StoreCounts, IsMove}
use Rattle.olc_state.specs.inner.Slots.{SetsNode}
use Rattle.olc_state.specs.inner.Stocks.{IsStoreSound, StockMoves, counts_in}
use Rattle.olc_state.specs.inner.Tables.{IsLinked, IsPlaced, Known}
use Rattle.olc_state.specs.inner.TailFacts.{IsHeld}
use Rattle.olc_state.specs.inner.World.{PlacedNode, NodeMap, is_detached, is_linked, is_retired}
use Rattle.olc_state.proofs.Holding.{locked_now}
use Rattle.olc_state.proofs.Options.{none_some}
use Rattle.olc_state.proofs.Ways.{known_linked}
use Rattle.olc_state.proofs.Unlike.{linked_retired}
use Rattle.olc_laws.proofs.Effects.{beside_one}
use Rattle.olc_laws.proofs.Words.{Retires, Unlocks, Upgrades, retired_effect, unlocked_effect, upgraded_effect}
use Rattle.olc_write.proofs.Keeping.{StoreKeeps, kept_by, sets_keeps}

-- a linked node isn't retired
pub live_linked : {M : Type 0} (a : PlacedNode M) → a.lifetime ≡ is_linked → (stamp : Option ℕ) → a.lifetime ≡ is_retired stamp → ⊥
live_linked a is stamp e = linked_retired stamp (sym is ∙ e)

module _ {P A M : Type 0} (meaning : P → M) (charge : A → Option Charge) (Granted : Type 0) (same : M → M → Bool) (old : Stock P A) (store : Store P) (pin : ℕ) (call : Record P) (env : Env P) (next : Record P) (report : Report) (out : Outcome P)
    (kept : IsStoreSound meaning charge old) where
  -- the event between these tables, with these counts after it
  abbrev pub MovesTo : StoreCounts → Type 0
  MovesTo books = IsMove Granted same (meant_table meaning old.store) (meant_table meaning store) old.store.root pin (counts_in meaning charge old) books (meant_record meaning call) (env_of meaning env) (meant_record meaning next) report (outcome_of meaning out)

  -- nothing has changed
  pub same_moves : store ≡ old.store → IsMove Granted same (meant_table meaning old.store) (meant_table meaning old.store) old.store.root pin (counts_in meaning charge old) (counts_in meaning charge old) (meant_record meaning call) (env_of meaning env) (meant_record meaning next) report (outcome_of meaning out)
      → StockMoves meaning charge Granted same old (record old { store = store }) pin call env next report out
  same_moves is move =
      subst (λ (z : Store P). StockMoves meaning charge Granted same old (record old { store = z }) pin call env next report out) (sym is)
      (record { kept = kept; move = move; root = refl; seats = refl })

  -- one slot has another node, of the same size
  pub sets_moves : (slot : ℕ) (a b : PlacedNode M) → meant_table meaning old.store slot ≡ Some a → ((stamp : Option ℕ) → a.lifetime ≡ is_retired stamp → ⊥) → SetsNode meaning old.store store slot (Some b)
      → stored_sizes store.nodes.slots ≡ stored_sizes old.store.nodes.slots → store.pins ≡ old.store.pins → IsPlaced (meant_table meaning store) old.store.root → MovesTo (counts_in meaning charge old)
      → StockMoves meaning charge Granted same old (record old { store = store }) pin call env next report out
  sets_moves slot a b here live sets sizes pins placed move =
      let keeps : StoreKeeps meaning old.store store = sets_keeps meaning old.store store slot a b here live sets sizes pins in
      let books : counts_in meaning charge old ≡ counts_in meaning charge (record old { store = store }) = ap (λ (p : PinsView). record { count = p.count; charge = charge old.budget; entries = old.entries }) (sym pins) in
      record {
        kept = kept_by meaning charge old (record old { store = store }) kept keeps refl placed;
        move = subst MovesTo books move;
        root = keeps.root;
        seats = keeps.seats;
      }

  -- a node that was remembered is locked
  pub locks_moves : (spot : Spot) (a : PlacedNode M) → meant_table meaning old.store spot.slot ≡ Some a → Known (meant_table meaning old.store) pin spot → MayUpgrade a.word spot.word
      → SetsNode meaning old.store store spot.slot (Some (record a { word = a.word + 2 })) → stored_sizes store.nodes.slots ≡ stored_sizes old.store.nodes.slots → store.pins ≡ old.store.pins → MovesTo (counts_in meaning charge old)
      → StockMoves meaning charge Granted same old (record old { store = store }) pin call env next report out
  locks_moves spot a here known may sets sizes pins move =
      let t : NodeMap M = meant_table meaning old.store in
      let t' : NodeMap M = meant_table meaning store in
      let linked : IsLinked t spot.slot a = known_linked t old.store.root [] kept.placed pin spot a known here may.same in
      let u : Upgrades t t' spot.slot a = record { here = linked; free = may.free; after = sets.here; others = beside_one t t' spot.slot sets.others } in
      sets_moves spot.slot a (record a { word = a.word + 2 }) here (live_linked a linked.lifetime) sets sizes pins (upgraded_effect u old.store.root (λ s. Unit {0}) (λ p. Unit {0}) kept.placed).placed move

  -- a held node is unlocked
  pub frees_moves : (spot : Spot) (held : IsHeld (meant_table meaning old.store) spot) → SetsNode meaning old.store store spot.slot (Some (record held.node { word = held.node.word + 2 }))
      → stored_sizes store.nodes.slots ≡ stored_sizes old.store.nodes.slots → store.pins ≡ old.store.pins → MovesTo (counts_in meaning charge old)
      → StockMoves meaning charge Granted same old (record old { store = store }) pin call env next report out
  frees_moves spot held sets sizes pins move =
      let a : PlacedNode M = held.node in
      let u : Unlocks (meant_table meaning old.store) (meant_table meaning store) spot.slot a = record {
        here = held.linked;
        locked = locked_now a.word spot.word held.word held.free;
        after = sets.here;
        others = beside_one (meant_table meaning old.store) (meant_table meaning store) spot.slot sets.others;
      } in
      sets_moves spot.slot a (record a { word = a.word + 2 }) held.linked.here (live_linked a held.linked.lifetime) sets sizes pins (unlocked_effect u old.store.root (λ s. Unit {0}) (λ p. Unit {0}) kept.placed tt).placed move

  -- a held node that is no longer in the tree is retired
  pub retires_moves : (slot : ℕ) (a : PlacedNode M) → meant_table meaning old.store slot ≡ Some a → a.lifetime ≡ is_detached → IsLocked a.word
      → meant_table meaning store slot ≡ Some (record a { word = a.word + 1; lifetime = is_retired (stamp_at old.store.pins.count) }) → ((o : ℕ) → o ≢ slot → meant_table meaning store o ≡ meant_table meaning old.store o)
      → store.root ≡ old.store.root → store.pins.seats ≡ old.store.pins.seats → store.pins.count ≡ count_after old.store.pins.count → stored_sizes store.nodes.slots ≡ stored_sizes old.store.nodes.slots
      → AllAdmitted (meant_table meaning store) store.pins.slots → MovesTo (record (counts_in meaning charge old) { count = count_after old.store.pins.count })
      → StockMoves meaning charge Granted same old (record old { store = store }) pin call env next report out
  retires_moves slot a here detached locked after others root seats count sizes admitted move =
      let t : NodeMap M = meant_table meaning old.store in
      let t' : NodeMap M = meant_table meaning store in
      let u : Retires t t' slot a (stamp_at old.store.pins.count) = record { here = here; detached = detached; locked = locked; after = after; others = beside_one t t' slot others } in
      let placed : IsPlaced t' old.store.root = (retired_effect u old.store.root (λ s. Unit {0}) kept.placed tt).placed in
      record {
        kept = record {
          placed = subst (λ z. IsPlaced t' z) (sym root) placed;
          admitted = admitted;
          narrow = λ o there. elim (eqb_tells o slot) [
            | inl e ↦ kept.narrow o (λ none. none_some a (sym none ∙ subst (λ z. t z ≡ Some a) (sym e.1) here))
            | inr far ↦ kept.narrow o (λ none. there (others o far.1 ∙ none))
          ];
          covered = subst (λ n. Covers (charge old.budget) n) (sym sizes) kept.covered;
        };
        move = subst (λ (n : ℕ). MovesTo (record (counts_in meaning charge old) { count = n })) (sym count) move;
        root = root;
        seats = seats;
      }
