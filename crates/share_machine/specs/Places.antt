-- What a machine reports of each number that is seated.
use Rattle.std.specs.Prelude.{ℕ, Bool, true, false, Option, Some, None}
use Rattle.spec_map.specs.Map.{lookup}
use Rattle.spec_olc.specs.Calls.{Outline}
use Rattle.spec_olc.specs.Lists.{is_in}
use Rattle.spec_olc.specs.State.{State, CallState}
use Rattle.spec_olc.specs.declared.types.Asking.{Asking}
use Rattle.spec_olc.specs.declared.types.Op.{Op}
use Rattle.spec_olc.specs.declared.types.Progress.{Progress}
use Rattle.spec_olc.specs.declared.types.Progress.TheVariants as progress
use Rattle.share_backend.specs.declared.lent.CallStage.{CallStage}
use Rattle.share_backend.specs.declared.lent.CallStage.TheVariants.{Ready, Running, Settled, Denied, Lost}

module _ {M : Type 0} where
  -- a call in flight: it runs, or has its reply, or was refused
  abbrev pub staged : Outline → Option (Op M) → Progress → Asking M → CallStage M
  staged outline (Some op) progress.Open asking = Running outline op asking
  staged outline None progress.Decided asking = Settled outline
  staged outline None progress.Refused asking = Denied outline
  staged outline op progress asking = Lost

  abbrev pub stage_of : CallState M → CallStage M
  stage_of call = staged call.outline call.op call.progress call.asking

  -- what a machine knows of a number, by whether it is seated
  abbrev pub place_of : Bool → Option (CallState M) → Option (CallStage M)
  place_of false call = None
  place_of true None = Some Ready
  place_of true (Some call) = Some (stage_of call)

  abbrev pub place_in : State M → ℕ → Option (CallStage M)
  place_in s id = place_of (is_in id s.seats) (lookup s.calls id)
