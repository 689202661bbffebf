-- What is known of a number whose call is kept from the map below.
use Rattle.std.specs.Prelude.{◌≡◌, ℕ, cond, nat_eq, Option, Some, None}
use Rattle.spec_olc.specs.Calls.{outline_of}
use Rattle.spec_olc.specs.Meaning.{in_some, op_of}
use Rattle.spec_olc.specs.declared.types.Asking.TheVariants.{Fresh, Wants}
use Rattle.spec_olc.specs.declared.types.Op.{Op}
use Rattle.share_backend.specs.declared.lent.CallStage.{CallStage}
use Rattle.share_backend.specs.declared.lent.CallStage.TheVariants as call
use Rattle.test_share_guards.specs.declared.delay.Delay.{Delay}
use Rattle.test_share_guards.specs.declared.delay.Delay.TheVariants.{Begun, Asked, Settled, Denied}
use Rattle.test_share_guards.specs.declared.delay.Delayed.{Delayed}

-- the map below has to know the number as ready
abbrev pub if_ready : {M : Type 0} → Option (CallStage M) → CallStage M → Option (CallStage M)
if_ready None stage = None
if_ready (Some call.Ready) stage = Some stage
if_ready (Some _) stage = Some call.Lost

module _ {M : Type 0} (meaning : ℕ → M) where
  abbrev pub stage_by : Op ℕ → Delay → CallStage M
  stage_by op Begun = call.Running (outline_of op) (op_of meaning op) Fresh
  stage_by op (Asked old) = call.Running (outline_of op) (op_of meaning op) (Wants (in_some meaning old))
  stage_by op Settled = call.Settled (outline_of op)
  stage_by op Denied = call.Denied (outline_of op)

  -- what is known of a number, of which the map below knows this
  abbrev pub placed : Option Delayed → ℕ → Option (CallStage M) → Option (CallStage M)
  placed None id below = below
  placed (Some d) id below = cond (nat_eq d.id id) (if_ready below (stage_by d.op d.stage)) below

-- no call but that of this number is delayed
abbrev pub IsDelayOf : ℕ → Option Delayed → Type 0
IsDelayOf id None = Unit {0}
IsDelayOf id (Some d) = d.id ≡ id
