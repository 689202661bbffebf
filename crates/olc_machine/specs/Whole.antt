-- A CALL WITHOUT A REPLY has its payloads, and the kind and keys that it is known by.
use Rattle.std.specs.Prelude.{◌≡◌, ℕ, Some}
use Rattle.spec_map.specs.Map.{lookup}
use Rattle.spec_olc.specs.Calls.{outline_of}
use Rattle.spec_olc.specs.State.{CallState, State}
use Rattle.spec_olc.specs.declared.types.Op.{Op}
use Rattle.spec_olc.specs.declared.types.Progress.TheVariants.{Open}

module _ {M : Type 0} where
  pub record HasItsOp (call : CallState M) : Type 0 where
    pub op : Op M
    pub op_is : call.op ≡ Some op
    pub outline : outline_of op ≡ call.outline

  -- the same of all calls in flight
  abbrev pub AllHaveTheirOps : State M → Type 0
  AllHaveTheirOps s = (id : ℕ) (call : CallState M) → lookup s.calls id ≡ Some call → call.progress ≡ Open
      → HasItsOp call
