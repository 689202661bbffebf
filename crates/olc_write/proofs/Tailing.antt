-- The next event of a call in its tail, by the tail that it is at.
use Rattle.std.proofs.Common.{◌≡◌, ℕ, Bool, Option, sym, subst}
use Rattle.node_table.specs.Charge.{Charge}
use Rattle.spec_olc.specs.declared.types.Env.{Env}
use Rattle.spec_olc.specs.declared.types.Outcome.{Outcome}
use Rattle.spec_olc.specs.declared.types.Report.{Report}
use Rattle.olc_state.specs.declared.stage.Record.{Record}
use Rattle.olc_state.specs.declared.stage.Stage.TheVariants.{Tail as at}
use Rattle.olc_state.specs.declared.stage.Task.{Task}
use Rattle.olc_state.specs.declared.stock.Stock.{Stock}
use Rattle.olc_state.specs.declared.tail.Tail.{Tail}
use Rattle.olc_state.specs.inner.Stocks.{StockMoves}

pub moves_at : {P A M : Type 0} (meaning : P → M) (charge : A → Option Charge) (Granted : Type 0) (same : M → M → Bool) (old new : Stock P A) (pin : ℕ) (task : Task P) (tail was : Tail) → tail ≡ was
    → (env : Env P) (next : Record P) (report : Report) (out : Outcome P)
    → StockMoves meaning charge Granted same old new pin (record { stage = at was; task = task }) env next report out
    → StockMoves meaning charge Granted same old new pin (record { stage = at tail; task = task }) env next report out
moves_at meaning charge Granted same old new pin task tail was is env next report out moves =
    subst (λ (z : Tail). StockMoves meaning charge Granted same old new pin (record { stage = at z; task = task }) env next report out) (sym is) moves
