-- The next event of a cleanup at its node, by the step that it is at.
use Rattle.std.proofs.Common.{◌≡◌, ℕ, Bool, Option, sym, subst}
use Rattle.node_table.specs.Charge.{Charge}
use Rattle.spec_olc.specs.declared.types.Env.{Env}
use Rattle.spec_olc.specs.declared.types.Outcome.{Outcome}
use Rattle.spec_olc.specs.declared.types.Report.{Report}
use Rattle.olc_state.specs.declared.cleanup.Cleanup.{Cleanup}
use Rattle.olc_state.specs.declared.cleanup.Tidy.{Tidy}
use Rattle.olc_state.specs.declared.stage.Record.{Record}
use Rattle.olc_state.specs.declared.stage.Task.{Task}
use Rattle.olc_state.specs.declared.stock.Stock.{Stock}
use Rattle.olc_tidy.specs.inner.Tidying.{TidyMoves}

pub tidies_at : {P A M : Type 0} (meaning : P → M) (charge : A → Option Charge) (Granted : Type 0) (same : M → M → Bool) (old new : Stock P A) (pin : ℕ) (task : Task P) (c : Cleanup) (tidy was : Tidy) → tidy ≡ was
    → (env : Env P) (next : Record P) (report : Report) (out : Outcome P)
    → TidyMoves meaning charge Granted same old new pin task c was env next report out → TidyMoves meaning charge Granted same old new pin task c tidy env next report out
tidies_at meaning charge Granted same old new pin task c tidy was is env next report out moves =
    subst (λ (z : Tidy). TidyMoves meaning charge Granted same old new pin task c z env next report out) (sym is) moves
