-- The state of a machine, with each payload replaced by its meaning.
use Rattle.std.specs.Prelude.{Option, Some, None, Result, Ok, Err}
use Rattle.node_table.specs.inner.Kinds.{mapped}
use Rattle.spec_node.specs.TableNode.{Child}
use Rattle.spec_node.specs.declared.child.Child.TheVariants.{Payload, Node as node}
use Rattle.spec_olc.specs.State.{State, VersionedNode, CallState}
use Rattle.spec_olc.specs.declared.types.Asking.{Asking}
use Rattle.spec_olc.specs.declared.types.Asking.TheVariants.{Fresh, Wants, Given}
use Rattle.spec_olc.specs.declared.types.Env.{Env}
use Rattle.spec_olc.specs.declared.types.Op.{Op}
use Rattle.spec_olc.specs.declared.types.Op.TheVariants.{Get, Insert, Remove, ComputeIfPresent, ComputeOrInsert, CompareExchange, Range}
use Rattle.spec_olc.specs.declared.types.Outcome.{Outcome}
use Rattle.spec_olc.specs.declared.types.Outcome.TheVariants.{Going, Ask, Pair, Decided, Refused, Done, Unknown}
use Rattle.spec_olc.specs.declared.types.Reply.{Reply}
use Rattle.spec_olc.specs.declared.types.Reply.TheVariants.{Old, Computed, Exchanged}
use Rattle.spec_olc.specs.declared.types.Seen.{Seen}

abbrev pub in_some : {A B : Type 0} → (A → B) → Option A → Option B
in_some f None = None
in_some f (Some a) = Some (f a)

module _ {P M : Type 0} (meaning : P → M) where
  abbrev pub child_of : Child P → Child M
  child_of (Payload v) = Payload (meaning v)
  child_of (node slot) = node slot

  abbrev pub seen_of : Seen P → Seen M
  seen_of s = record { child = in_some child_of s.child; count = s.count; full = s.full }

  abbrev pub op_of : Op P → Op M
  op_of (Get k) = Get k
  op_of (Insert k v) = Insert k (meaning v)
  op_of (Remove k) = Remove k
  op_of (ComputeIfPresent k) = ComputeIfPresent k
  op_of (ComputeOrInsert k v) = ComputeOrInsert k (meaning v)
  op_of (CompareExchange k old new) = CompareExchange k (meaning old) (in_some meaning new)
  op_of (Range a b n) = Range a b n

  abbrev pub asking_of : Asking P → Asking M
  asking_of Fresh = Fresh
  asking_of (Wants old) = Wants (in_some meaning old)
  asking_of (Given old answer) = Given (in_some meaning old) (in_some meaning answer)

  abbrev pub both_of : P × Option P → M × Option M
  both_of p = (meaning p.0, in_some meaning p.1)

  abbrev pub exchanged_of : Result (Option P) (Option P) → Result (Option M) (Option M)
  exchanged_of (Ok new) = Ok (in_some meaning new)
  exchanged_of (Err current) = Err (in_some meaning current)

  abbrev pub meant_reply : Reply P → Reply M
  meant_reply (Old before) = Old (in_some meaning before)
  meant_reply (Computed both) = Computed (in_some both_of both)
  meant_reply (Exchanged r) = Exchanged (exchanged_of r)

  abbrev pub outcome_of : Outcome P → Outcome M
  outcome_of Going = Going
  outcome_of (Ask old) = Ask (in_some meaning old)
  outcome_of (Pair key v) = Pair key (meaning v)
  outcome_of (Decided reply) = Decided (meant_reply reply)
  outcome_of Refused = Refused
  outcome_of Done = Done
  outcome_of Unknown = Unknown

  abbrev pub env_of : Env P → Env M
  env_of env = record {
    torn = seen_of env.torn;
    fail = env.fail;
    answer = in_some meaning env.answer;
  }

  abbrev pub node_meant : VersionedNode P → VersionedNode M
  node_meant a = record {
    word = a.word;
    lifetime = a.lifetime;
    node = record {
      form = a.node.form;
      prefix = a.node.prefix;
      children = mapped child_of a.node.children;
    };
  }

  abbrev pub flight_of : CallState P → CallState M
  flight_of call = record {
    outline = call.outline;
    op = in_some op_of call.op;
    pin = call.pin;
    cursor = call.cursor;
    reach = call.reach;
    given = call.given;
    cleaning = call.cleaning;
    remembered = call.remembered;
    seen = in_some seen_of call.seen;
    asking = asking_of call.asking;
    progress = call.progress;
    held = call.held;
    made = call.made;
  }

  -- THE MEANING of a state
  abbrev pub meant : State P → State M
  meant s = record {
    nodes = mapped node_meant s.nodes;
    root = s.root;
    count = s.count;
    calls = mapped flight_of s.calls;
    seats = s.seats;
    entries = s.entries;
    charge = s.charge;
  }
