-- A CALL WAS MADE with this reply, and its closure was last called as its operation has it.
use Rattle.std.specs.Prelude.{Bool, Option}
use Rattle.share_backend.specs.Stages.{operation_by}
use Rattle.share_holds.specs.Closures.{IsLastCall}
use Rattle.share_rule.specs.Known.{Known, MadeCall}
use Rattle.spec_olc.specs.Meaning.{op_of, meant_reply}
use Rattle.spec_olc.specs.declared.types.Op.{Op}
use Rattle.spec_olc.specs.declared.types.Reply.{Reply}

module _ {P T F : Type 0} (same : T → T → Bool) (meaning : P → T)
    (step : F → Option P → Option P → F → Type 0) (last : F) where
  pub record MadeWith (op : Op P) (reply : Reply P) (k n : Known T) : Type 0 where
    pub asked : Option (Option T × Option T)
    pub made : MadeCall same k (operation_by (op_of meaning op) asked (meant_reply meaning reply)) n
    pub last_call : IsLastCall meaning step last asked
