-- The machine's inside as data.
use Rattle.std.specs.Prelude.{◌≡◌, ℕ, Option, Some, None}
use Rattle.node_table.specs.Charge.{Charge}
use Rattle.spec_olc.specs.Calls.{outline_of}
use Rattle.spec_olc.specs.State.{State}
use Rattle.spec_olc.specs.declared.types.Asking.TheVariants.{Fresh}
use Rattle.spec_olc.specs.declared.types.Op.{Op}
use Rattle.spec_olc.specs.declared.types.Progress.TheVariants.{Open}
use Rattle.olc_state.specs.declared.stage.Record.{Record}
use Rattle.olc_state.specs.declared.stage.Task.{Task}
use Rattle.olc_state.specs.inner.Effects.{returned_at}
use Rattle.olc_state.specs.inner.Meant.{meant_world}
use Rattle.olc_state.specs.inner.Scans.{BeginsAt}
use Rattle.olc_state.specs.inner.Shown.{state_of}
use Rattle.olc_state.specs.inner.World.{World}
use Rattle.olc_machine.specs.declared.inner.Inner.{Inner}

module _ {P A : Type 0} where
  -- the inside, with what the budget has charged
  abbrev pub inside : (A → Option Charge) → Inner P A → World P
  inside charge m = record {
    slots = m.stock.store.nodes.slots;
    root = m.stock.store.root;
    pins = m.stock.store.pins;
    calls = m.calls.entries;
    entries = m.stock.entries;
    charge = charge m.stock.budget;
  }

  -- the state that a reader sees of it
  abbrev pub state_in : (A → Option Charge) → Inner P A → State P
  state_in charge m = state_of (inside charge m)

  -- the inside, with payloads replaced by their meanings
  abbrev pub meant_in : {M : Type 0} → (P → M) → (A → Option Charge) → Inner P A → World M
  meant_in meaning charge m = meant_world meaning (inside charge m)

module _ {M : Type 0} where
  -- A CALL THAT BEGINS: its task, and its first stage
  abbrev pub begun_task : Op M → Task M
  begun_task op = record {
    outline = outline_of op;
    op = Some op;
    last = None;
    spare = None;
    question = None;
    returns = returned_at op;
    asking = Fresh;
    progress = Open;
  }

  pub record IsBegunBy (op : Op M) (call : Record M) : Type 0 where
    pub task : call.task ≡ begun_task op
    pub stage : BeginsAt (outline_of op) call.stage
