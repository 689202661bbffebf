-- How an event changes a call and the content, with payloads replaced by their meanings.
use Rattle.std.specs.Prelude.{Bool, Option, Some}
use Rattle.node_table.specs.inner.Kinds.{mapped}
use Rattle.spec_olc.specs.Calls.{outline_of}
use Rattle.spec_olc.specs.Meaning.{in_some, op_of, outcome_of}
use Rattle.spec_olc.specs.declared.types.Asking.{Asking}
use Rattle.spec_olc.specs.declared.types.Op.{Op}
use Rattle.spec_olc.specs.declared.types.Outcome.{Outcome}
use Rattle.share_backend.specs.Stages.{Changes, Opens, Turns}
use Rattle.share_backend.specs.declared.lent.CallStage.{CallStage}
use Rattle.share_backend.specs.declared.lent.CallStage.TheVariants.{Running}
use Rattle.share_tree.specs.Seats.{seat_stage_of}
use Rattle.share_tree.specs.declared.opened.Opened.{Opened}
use Rattle.share_tree.specs.declared.turned.Turned.{Turned}
use Rattle.share_tree.specs.inner.Contents.{Contents}
use Rattle.share_tree.specs.inner.Opened.{outcome_opened, seat_opened}

module _ {P M : Type 0} (meaning : P → M) where
  -- a running call, with the state of its closure
  abbrev pub running : Op P → Asking M → CallStage M
  running op asking = Running (outline_of op) (op_of meaning op) asking

  -- the number after the first event of a call
  abbrev pub OpensTo : Op P → Opened P → Type 0
  OpensTo op o = Opens (outline_of op) (op_of meaning op) (Some (seat_stage_of meaning (seat_opened o))) (outcome_of meaning (outcome_opened o))

  -- the call after an event at this stage
  abbrev pub TurnsSeatTo : CallStage M → Option P → Turned P → Type 0
  TurnsSeatTo p answer t = Turns p (in_some meaning answer) t.kind (Some (seat_stage_of meaning t.seat)) (outcome_of meaning t.outcome)

  -- the content after an event of a call at this stage
  abbrev pub ChangesTo : (M → M → Bool) → CallStage M → Contents P → Contents P → Outcome P → Type 0
  ChangesTo same p old new out = Changes same p (mapped meaning old.pairs) (mapped meaning new.pairs) (outcome_of meaning out)
