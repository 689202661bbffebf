-- AN EVENT OF A CALL as the code makes it: what it may rely on, and what it makes of the stock of
-- nodes.
use Rattle.std.specs.Prelude.{◌≡◌, ◌≢◌, ℕ, ◌^◌, ◌<◌, ◌≤◌, Bool, Option, None}
use Rattle.node_table.specs.Charge.{Charge, Covers}
use Rattle.spec_olc.specs.Calls.{bytes_of}
use Rattle.spec_olc.specs.Meaning.{env_of, outcome_of}
use Rattle.spec_olc.specs.declared.types.Env.{Env}
use Rattle.spec_olc.specs.declared.types.Outcome.{Outcome}
use Rattle.spec_olc.specs.declared.types.Report.{Report}
use Rattle.olc_state.specs.declared.stage.Record.{Record}
use Rattle.olc_state.specs.declared.stage.Stage.TheVariants as Stage
use Rattle.olc_state.specs.declared.stage.Task.{Task}
use Rattle.olc_state.specs.declared.stock.Stock.{Stock}
use Rattle.olc_state.specs.declared.tail.Tail.{Tail}
use Rattle.olc_state.specs.inner.Facts.{Facts, stored_sizes, AllAdmitted}
use Rattle.olc_state.specs.inner.Meant.{meant_record, meant_table}
use Rattle.olc_state.specs.inner.Moves.{StoreCounts, IsMove}
use Rattle.olc_state.specs.inner.Tables.{IsPlaced, Keeps}
use Rattle.olc_state.specs.inner.World.{NodeMap}

-- all slots are numbers of 64 bits
abbrev pub SlotsFitU64 : {M : Type 0} → NodeMap M → Type 0
SlotsFitU64 {M} t = (s : ℕ) → t s ≢ None → s < 2 ^ 64

module _ {P A M : Type 0} (meaning : P → M) (charge : A → Option Charge) where
  abbrev pub table_in : Stock P A → NodeMap M
  table_in stock = meant_table meaning stock.store

  abbrev pub counts_in : Stock P A → StoreCounts
  counts_in stock = record {
    count = stock.store.pins.count;
    charge = charge stock.budget;
    entries = stock.entries;
  }

  -- the nodes are placed, admitted and charged
  pub record IsStoreSound (stock : Stock P A) : Type 0 where
    pub placed : IsPlaced (table_in stock) stock.store.root
    pub admitted : AllAdmitted (table_in stock) stock.store.pins.slots
    pub narrow : SlotsFitU64 (table_in stock)
    pub covered : Covers (charge stock.budget) (stored_sizes stock.store.nodes.slots)

  -- what a call with this pin knows
  abbrev pub StockKnows : Type 0 → (M → M → Bool) → Stock P A → ℕ → Record P → Type 0
  StockKnows Granted same stock pin call =
      Facts Granted same (table_in stock) stock.store.root pin (meant_record meaning call)

  -- there are at most as many pairs as keys, and at least one if a key is present
  pub record CountsEntries (stock : Stock P A) : Type 0 where
    pub few : stock.entries ≤ 2 ^ 64
    pub some : (key : ℕ) (v : M) → key < 2 ^ 64 → Keeps (table_in stock) (bytes_of key) v
        → 1 ≤ stock.entries

  -- THE EVENT
  pub record StockMoves (Granted : Type 0) (same : M → M → Bool) (old new : Stock P A) (pin : ℕ)
      (call : Record P) (env : Env P) (next : Record P) (report : Report) (out : Outcome P)
      : Type 0 where
    pub kept : IsStoreSound new
    pub move : IsMove Granted same (table_in old) (table_in new) old.store.root pin
        (counts_in old) (counts_in new) (meant_record meaning call) (env_of meaning env)
        (meant_record meaning next) report (outcome_of meaning out)
    pub root : new.store.root ≡ old.store.root
    pub seats : new.store.pins.seats ≡ old.store.pins.seats

  -- the same at a place of a tail
  abbrev pub KnowsAt : (Granted : Type 0) (same : M → M → Bool) → Stock P A → ℕ → Task P → Tail
      → Type 0
  KnowsAt Granted same stock pin task tail =
      StockKnows Granted same stock pin (record { stage = Stage.Tail tail; task = task })

  abbrev pub MovesBy : (Granted : Type 0) (same : M → M → Bool) (old new : Stock P A) → ℕ
      → Task P → Tail → Env P → Record P → Report → Outcome P → Type 0
  MovesBy Granted same old new pin task tail env next report out =
      StockMoves Granted same old new pin (record { stage = Stage.Tail tail; task = task }) env next
      report out
