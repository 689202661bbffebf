-- What a call does with the current value of its key, with payloads replaced by their meanings.
use Rattle.std.proofs.Common.{◌≡◌, Bool, Option, Some, refl}
use Rattle.spec_olc.specs.Meaning.{in_some, op_of}
use Rattle.spec_olc.specs.declared.types.Asking.{Asking}
use Rattle.spec_olc.specs.declared.types.Op.{Op}
use Rattle.spec_olc.specs.declared.types.Op.TheVariants.{Range}
use Rattle.olc_decide.specs.declared.presence.Judged.{Judged}
use Rattle.olc_decide.specs.declared.presence.Judged.TheVariants.{Other, Same, Stores, Removes}
use Rattle.olc_decide.specs.inner.Judged.{IsAgainst, IsJudgedAnswer, otherwise_of, value_of}

module _ {M : Type 0} (same : M → M → Bool) where
  pub answered_by : (op : Option (Op M)) (asking : Asking M) (answer : Option M) (v : M) → value_of op answer ≡ Some v → (j : Judged) → IsAgainst same asking v j → IsJudgedAnswer same op asking answer j
  answered_by op asking answer v e Same h = (v, h, e)
  answered_by op asking answer v e Stores h = (v, e, h)
  answered_by op asking answer v e Other h = absurd h
  answered_by op asking answer v e Removes h = absurd h

module _ {P M : Type 0} (meaning : P → M) where
  pub otherwise_meant : (op : Option (Op P)) → otherwise_of (in_some (op_of meaning) op) ≡ in_some meaning (otherwise_of op)
  otherwise_meant (Some (Range a b n)) = refl
  otherwise_meant op = refl
