-- One event of a call: it writes, or only reads.
use Rattle.std.specs.Prelude.{◌≡◌, ℕ, Bool, [], Option, Some, ◌⊎◌}
use Rattle.node_table.specs.Charge.{Charge}
use Rattle.spec_olc.specs.Meaning.{env_of, in_some, outcome_of}
use Rattle.spec_olc.specs.declared.types.Env.{Env}
use Rattle.spec_olc.specs.declared.types.Outcome.{Outcome}
use Rattle.spec_olc.specs.declared.types.Report.{Report}
use Rattle.olc_state.specs.declared.stage.Record.{Record}
use Rattle.olc_state.specs.declared.stock.Stock.{Stock}
use Rattle.olc_state.specs.inner.Meant.{meant_record}
use Rattle.olc_state.specs.inner.Shown.{held_at}
use Rattle.olc_state.specs.inner.Stocks.{StockMoves, table_in}
use Rattle.olc_state.specs.inner.Turns.{IsAdvance}

module _ {P A M : Type 0} (meaning : P → M) (charge : A → Option Charge) (Granted : Type 0) (same : M → M → Bool) where
  -- an event that writes, after which its call goes on
  pub record HasWritten (old new : Stock P A) (pin : ℕ) (call : Record P) (env : Env P)
      (after : Option (Record P)) (report : Report) (out : Outcome P) : Type 0 where
    pub next : Record P
    pub after_is : after ≡ Some next
    pub moves : StockMoves meaning charge Granted same old new pin call env next report out

  -- an event of a call that holds no node, which changes none
  pub record HasRead (old new : Stock P A) (pin : ℕ) (call : Record P) (env : Env P)
      (after : Option (Record P)) (report : Report) (out : Outcome P) : Type 0 where
    pub stays : new ≡ old
    pub held : held_at call.stage ≡ []
    pub advance : IsAdvance Granted same (table_in meaning charge old) old.store.root pin
        (meant_record meaning call) (env_of meaning env) (in_some (meant_record meaning) after)
        report (outcome_of meaning out)

  abbrev pub Happens : Stock P A → Stock P A → ℕ → Record P → Env P → Option (Record P) → Report
      → Outcome P → Type 0
  Happens old new pin call env after report out = HasWritten old new pin call env after report out
      ⊎ HasRead old new pin call env after report out
