-- The machine's inside, with each payload replaced by its meaning.
use Rattle.std.specs.Prelude.{◌≡◌, ℕ, List, Option, Some, map}
use Rattle.spec_node.specs.TableNode.{TableNode}
use Rattle.node_table.specs.inner.Kinds.{mapped}
use Rattle.spec_olc.specs.Meaning.{in_some, child_of, seen_of, op_of, asking_of}
use Rattle.olc_words.specs.Epoch.{entry_at}
use Rattle.olc_state.specs.declared.stage.Record.{Record}
use Rattle.olc_state.specs.declared.stage.Stored.{Stored}
use Rattle.olc_state.specs.declared.stage.Task.{Task}
use Rattle.olc_state.specs.declared.store.Store.{Store}
use Rattle.olc_state.specs.inner.World.{World, NodeMap, placed_node, table_on}

module _ {P M : Type 0} (meaning : P → M) where
  abbrev pub meant_node : TableNode P → TableNode M
  meant_node a = record {
    form = a.form;
    prefix = a.prefix;
    children = mapped (child_of meaning) a.children;
  }

  abbrev pub meant_stored : Stored P → Stored M
  meant_stored n = record { word = n.word; place = n.place; node = meant_node n.node }

  abbrev pub meant_slots : List (Option (Stored P)) → List (Option (Stored M))
  meant_slots slots = map (in_some meant_stored) slots

  abbrev pub meant_task : Task P → Task M
  meant_task task = record {
    outline = task.outline;
    op = in_some (op_of meaning) task.op;
    last = in_some (seen_of meaning) task.last;
    spare = in_some meaning task.spare;
    question = in_some meaning task.question;
    returns = in_some meaning task.returns;
    asking = asking_of meaning task.asking;
    progress = task.progress;
  }

  abbrev pub meant_record : Record P → Record M
  meant_record r = record { stage = r.stage; task = meant_task r.task }

  abbrev pub meant_calls : List (ℕ × Option (Record P)) → List (ℕ × Option (Record M))
  meant_calls calls = mapped (in_some meant_record) calls

  -- the nodes of a store
  abbrev pub meant_table : Store P → NodeMap M
  meant_table store = table_on (meant_slots store.nodes.slots) store.pins.slots

  -- this node is stored in the slot
  abbrev pub stands_as : Store P → ℕ → Stored P → Type 0
  stands_as store slot node =
      meant_table store slot ≡ placed_node (entry_at store.pins.slots slot) (Some (meant_stored node))

  abbrev pub meant_world : World P → World M
  meant_world w = record {
    slots = meant_slots w.slots;
    root = w.root;
    pins = w.pins;
    calls = meant_calls w.calls;
    entries = w.entries;
    charge = w.charge;
  }
