-- What determines a legal run: all of an operation but its reply.
use Rattle.std.specs.Prelude.{ℕ, Bool, true, false}
use Rattle.spec_map.specs.Call.{Call, ClosureCall, Answer, replied, refused, Operation}

pub record Request (P : Type 0) : Type 0 where
  pub call : Call ℕ P
  pub asked : ClosureCall P
  pub is_refused : Bool

abbrev pub is_refusal : {P : Type 0} → Answer ℕ P P → Bool
is_refusal (replied r) = false
is_refusal refused = true

abbrev pub request_of : {P : Type 0} → Operation ℕ P P → Request P
request_of operation =
    record { call = operation.call; asked = operation.asked; is_refused = is_refusal operation.answer }
