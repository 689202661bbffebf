-- A CLEANUP AT ITS NODE: what the call knows before an event, and what the event does.
use Rattle.std.specs.Prelude.{◌≡◌, ℕ, ◌<◌, ◌≤◌, Bool, true, false, [], length, Option, None, if◌then◌else◌, ◌==◌}
use Rattle.node_table.specs.Charge.{Charge}
use Rattle.node_base.specs.Form.{few_in, form_place, next_form}
use Rattle.node_base.specs.declared.base_node.NodeType.{NodeType}
use Rattle.spec_node.specs.TableNode.{TableNode}
use Rattle.spec_olc.specs.declared.types.Env.{Env}
use Rattle.spec_olc.specs.declared.types.Outcome.{Outcome}
use Rattle.spec_olc.specs.declared.types.Report.{Report}
use Rattle.olc_state.specs.declared.cleanup.Cleanup.{Cleanup}
use Rattle.olc_state.specs.declared.cleanup.Tidy.{Tidy}
use Rattle.olc_state.specs.declared.cleanup.Tidy.TheVariants as tidy
use Rattle.olc_state.specs.declared.stage.Record.{Record}
use Rattle.olc_state.specs.declared.stage.Stage.TheVariants as stage
use Rattle.olc_state.specs.declared.stage.Task.{Task}
use Rattle.olc_state.specs.declared.stock.Stock.{Stock}
use Rattle.olc_state.specs.declared.tail.NodePair.{NodePair}
use Rattle.olc_state.specs.inner.Stocks.{StockKnows, StockMoves}
use Rattle.olc_write.specs.inner.Leaving.{IsLeftOf}

module _ {P A M : Type 0} (meaning : P → M) (charge : A → Option Charge) where
  abbrev pub KnowsTidy : (Granted : Type 0) (same : M → M → Bool) → Stock P A → ℕ → Task P → Cleanup → Tidy → Type 0
  KnowsTidy Granted same stock pin task c x = StockKnows meaning charge Granted same stock pin (record { stage = stage.Tidy c x; task = task })

  abbrev pub TidyMoves : (Granted : Type 0) (same : M → M → Bool) (old new : Stock P A) → ℕ → Task P → Cleanup → Tidy → Env P → Record P → Report → Outcome P → Type 0
  TidyMoves Granted same old new pin task c x env next report out =
      StockMoves meaning charge Granted same old new pin (record { stage = stage.Tidy c x; task = task }) env next report out

module _ {M : Type 0} where
  -- what comes after the second upgrade: what is due at the node
  abbrev pub IsDueAs : TableNode M → NodePair → Tidy → Type 0
  IsDueAs a pair (tidy.TakeAway p) = (p ≡ pair) × (a.children ≡ [])
  IsDueAs a pair (tidy.MakeSmaller p) = (p ≡ pair) × (length a.children ≤ few_in a.form)
  IsDueAs a pair (tidy.UnlockBelow p) = (p ≡ pair) × (few_in a.form < length a.children)
  IsDueAs a pair _ = ⊥

  -- the cleanup, which none follows, for the parent of a node that was taken out, if there may be one
  abbrev pub IsLeftAgain : Bool → TableNode M → Option Cleanup → Type 0
  IsLeftAgain true a left = IsLeftOf false a left
  IsLeftAgain false a left = left ≡ None

-- the form after one step towards another
abbrev pub stepped : NodeType → NodeType → NodeType
stepped form goal = if form_place form == form_place goal then form else next_form form
