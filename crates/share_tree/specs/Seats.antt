-- What is known of the call of a number by its seat.
use Rattle.std.specs.Prelude.{ℕ, Option, Some, None}
use Rattle.slab.specs.Slab.{Slab, get}
use Rattle.spec_olc.specs.Meaning.{in_some}
use Rattle.spec_olc.specs.declared.types.Asking.{Asking}
use Rattle.spec_olc.specs.declared.types.Asking.TheVariants as asking
use Rattle.spec_olc.specs.declared.types.Op.TheVariants.{ComputeIfPresent, ComputeOrInsert}
use Rattle.share_backend.specs.declared.lent.CallStage.{CallStage}
use Rattle.share_backend.specs.declared.lent.CallStage.TheVariants as stage
use Rattle.share_tree.specs.declared.seat.CallSeat.{CallSeat}
use Rattle.share_tree.specs.declared.seat.CallSeat.TheVariants.{Ready, Fresh, Present, Always, Settled, Denied}

module _ {P M : Type 0} (meaning : P → M) where
  -- the state of the closure of a call that asked it with `old`
  abbrev pub asked_with : Option M → Option (Option P) → Asking M
  asked_with old None = asking.Wants old
  asked_with old (Some answer) = asking.Given old (in_some meaning answer)

  abbrev pub seat_stage_of : CallSeat P → CallStage M
  seat_stage_of Ready = stage.Ready
  seat_stage_of (Fresh k) = stage.Running (ComputeIfPresent k) (ComputeIfPresent k) asking.Fresh
  seat_stage_of (Present q answer) =
      stage.Running (ComputeIfPresent q.key) (ComputeIfPresent q.key) (asked_with (in_some meaning q.old) answer)
  seat_stage_of (Always other q answer) =
      stage.Running (ComputeOrInsert q.key tt) (ComputeOrInsert q.key (meaning other)) (asked_with (in_some meaning q.old) answer)
  seat_stage_of (Settled o) = stage.Settled o
  seat_stage_of (Denied o) = stage.Denied o

  abbrev pub seat_place_of : Option (CallSeat P) → Option (CallStage M)
  seat_place_of None = None
  seat_place_of (Some seat) = Some (seat_stage_of seat)

  -- what is known of a number
  abbrev pub seat_place_in : Slab (CallSeat P) → ℕ → Option (CallStage M)
  seat_place_in seats id = seat_place_of (get seats id)
