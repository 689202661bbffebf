-- Calls of a map of payloads and their replies, as a legal run of one map.
use Rattle.std.specs.Prelude.{◌≡◌, ℕ, Bool, List, [], ◌∷◌, map, Option, Some, None}
use Rattle.spec_map.specs.Map.{Pairs}
use Rattle.spec_map.specs.Call.{Call, get, insert, remove, compute_if_present, is_empty, keys}
use Rattle.spec_map.specs.Call.{ClosureCall, Answer, old_value, computed, tested, listed, replied, refused, Operation}
use Rattle.spec_map.specs.Legal.{Allows, after_operation, IsLegal}
use Rattle.spec_map.specs.Refusal.{MayRunOut}
use Rattle.face_runs.specs.declared.payload_calls.PayloadCall.{PayloadCall}
use Rattle.face_runs.specs.declared.payload_calls.PayloadCall.TheVariants.{Get, Insert, Remove, ComputeIfPresent, IsEmpty, Keys}
use Rattle.face_runs.specs.declared.payload_calls.PayloadReply.{PayloadReply}
use Rattle.face_runs.specs.declared.payload_calls.PayloadReply.TheVariants.{Seen, Unseen, Old, Tested, Listed, Refused}

module _ {K P : Type 0} (number : K → ℕ) (read : ℕ → K) (alike : P → P → Type 0) where
  abbrev pub payload_call : PayloadCall K P → Call ℕ P
  payload_call (Get key) = get (number key)
  payload_call (Insert key payload) = insert (number key) payload
  payload_call (Remove key) = remove (number key)
  payload_call (ComputeIfPresent key answer) = compute_if_present (number key)
  payload_call IsEmpty = is_empty
  payload_call Keys = keys

  -- what the closure of a call returns, if it is called
  abbrev pub AnswersAs : PayloadCall K P → ClosureCall P → Type 0
  AnswersAs (ComputeIfPresent key answer) (Some (current, given)) = given ≡ answer
  AnswersAs call asked = Unit {0}

  -- the reply shows the key's value: none, or a copy of it
  abbrev pub Shows : Option P → Option P → Type 0
  Shows None found = found ≡ None
  Shows (Some copy) found = (current : P) × (found ≡ Some current) × alike current copy

  -- the reply reports the call's answer
  abbrev pub Reports : PayloadCall K P → PayloadReply K P → Answer ℕ P P → Type 0
  Reports (Get key) (Seen shown) answer =
      (found : Option P) × (answer ≡ replied (old_value found)) × Shows shown found
  Reports (Get key) Unseen answer = (current : P) × (answer ≡ replied (old_value (Some current)))
  Reports (Insert key payload) (Old before) answer = answer ≡ replied (old_value before)
  Reports (Insert key payload) Refused answer = answer ≡ refused
  Reports (Remove key) (Old before) answer = answer ≡ replied (old_value before)
  Reports (ComputeIfPresent key given) (Old None) answer = answer ≡ replied (computed None)
  Reports (ComputeIfPresent key given) (Old (Some before)) answer =
      answer ≡ replied (computed (Some (before, given)))
  Reports IsEmpty (Tested b) answer = answer ≡ replied (tested b)
  Reports Keys (Listed found) answer =
      (numbers : List ℕ) × (answer ≡ replied (listed numbers)) × (found.items ≡ map read numbers)
  Reports Keys Refused answer = answer ≡ refused
  Reports call reply answer = ⊥

  -- the operation is this call with this reply
  pub record IsPayloadOperation (call : PayloadCall K P) (reply : PayloadReply K P)
      (operation : Operation ℕ P P) : Type 0 where
    pub called : operation.call ≡ payload_call call
    pub asked : AnswersAs call operation.asked
    pub told : Reports call reply operation.answer

  abbrev pub ArePayloadOperations
      : List (PayloadCall K P) → List (PayloadReply K P) → List (Operation ℕ P P) → Type 0
  ArePayloadOperations [] [] [] = Unit {0}
  ArePayloadOperations (call ∷ calls) (reply ∷ replies) (operation ∷ operations) =
      IsPayloadOperation call reply operation × ArePayloadOperations calls replies operations
  ArePayloadOperations calls replies operations = ⊥

  -- The calls with their replies are a legal run from the one map to the other.
  pub record AreLegalPayloadReplies (same : P → P → Bool) (r : MayRunOut) (m : Pairs P)
      (calls : List (PayloadCall K P)) (replies : List (PayloadReply K P)) (n : Pairs P)
      : Type 0 where
    pub operations : List (Operation ℕ P P)
    pub made : ArePayloadOperations calls replies operations
    pub legal : IsLegal same r m operations n

  -- the call with its reply is one that the map allows, and it leads to the other map
  pub record IsLegalPayloadReply (same : P → P → Bool) (r : MayRunOut) (m : Pairs P)
      (call : PayloadCall K P) (reply : PayloadReply K P) (n : Pairs P) : Type 0 where
    pub operation : Operation ℕ P P
    pub made : IsPayloadOperation call reply operation
    pub allowed : Allows same r m operation
    pub leads : n ≡ after_operation same m operation
