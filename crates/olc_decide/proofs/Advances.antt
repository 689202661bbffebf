-- The next event of a call, by the stage that it is at.
use Rattle.std.proofs.Common.{◌≡◌, ℕ, Bool, sym, subst}
use Rattle.spec_olc.specs.declared.types.Env.{Env}
use Rattle.spec_olc.specs.declared.types.Outcome.{Outcome}
use Rattle.spec_olc.specs.declared.types.Report.{Report}
use Rattle.olc_state.specs.declared.stage.Record.{Record}
use Rattle.olc_state.specs.declared.stage.Stage.{Stage}
use Rattle.olc_state.specs.declared.stage.Task.{Task}
use Rattle.olc_state.specs.inner.Facts.{Facts}
use Rattle.olc_state.specs.inner.Turns.{IsRead}
use Rattle.olc_state.specs.inner.World.{NodeMap}

module _ {M : Type 0} (Granted : Type 0) (same : M → M → Bool) (t : NodeMap M) (root pin : ℕ) (task : Task M) (at stage : Stage) (is : at ≡ stage) where
  -- what the event of a call at this stage is
  pub reads_at : (env : Env M) (next : Record M) (report : Report) (out : Outcome M) → IsRead Granted same t root pin (record { stage = stage; task = task }) env next report out
      → IsRead Granted same t root pin (record { stage = at; task = task }) env next report out
  reads_at env next report out h = subst (λ (s : Stage). IsRead Granted same t root pin (record { stage = s; task = task }) env next report out) (sym is) h

  -- what the call knows
  pub known_at : Facts Granted same t root pin (record { stage = at; task = task }) → Facts Granted same t root pin (record { stage = stage; task = task })
  known_at facts = subst (λ (s : Stage). Facts Granted same t root pin (record { stage = s; task = task })) is facts
