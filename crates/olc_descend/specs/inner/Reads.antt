-- The call after an event, over the code's own payloads.
use Rattle.std.specs.Prelude.{ℕ, Bool}
use Rattle.spec_olc.specs.Meaning.{env_of, outcome_of}
use Rattle.spec_olc.specs.declared.types.Env.{Env}
use Rattle.spec_olc.specs.declared.types.Outcome.{Outcome}
use Rattle.spec_olc.specs.declared.types.Report.{Report}
use Rattle.olc_state.specs.declared.stage.Record.{Record}
use Rattle.olc_state.specs.declared.store.Store.{Store}
use Rattle.olc_state.specs.inner.Facts.{Facts}
use Rattle.olc_state.specs.inner.Meant.{meant_record, meant_table}
use Rattle.olc_state.specs.inner.Turns.{IsRead}

module _ {P M : Type 0} where
  -- what a call with this pin knows
  abbrev pub KnowsMeant : Type 0 → (M → M → Bool) → (P → M) → Store P → ℕ → Record P → Type 0
  KnowsMeant Granted same meaning store pin call =
      Facts Granted same (meant_table meaning store) store.root pin (meant_record meaning call)

  -- an event that writes no node
  abbrev pub ReadsOnly : Type 0 → (M → M → Bool) → (P → M) → Store P → ℕ → Record P → Env P
      → Record P → Report → Outcome P → Type 0
  ReadsOnly Granted same meaning store pin call env next report out =
      IsRead Granted same (meant_table meaning store) store.root pin (meant_record meaning call)
      (env_of meaning env) (meant_record meaning next) report (outcome_of meaning out)
