-- Calls of a face and their replies, as a legal run of one map.
use Rattle.std.specs.Prelude.{◌≡◌, ℕ, List, [], ◌∷◌, Option, Some, None, map, nat_eq}
use Rattle.spec_map.specs.Map.{Pairs}
use Rattle.spec_map.specs.Call.{Call, get, insert, remove, compare_exchange, compute_if_present, compute_or_insert, is_empty, keys, range, nearest, count, first, last, floor, below, ceiling, above}
use Rattle.spec_map.specs.Call.{Answer, old_value, exchanged, computed, tested, listed, ranged, found, counted, replied, refused, Operation}
use Rattle.spec_map.specs.Legal.{AnswersBy}
use Rattle.spec_map.specs.Refusal.{MayRunOut}
use Rattle.face_runs.specs.Conversion.{Conversion, IsLegalRead}
use Rattle.face_runs.specs.declared.calls.Call.{Call as FaceCall}
use Rattle.face_runs.specs.declared.calls.Call.TheVariants.{Get, Insert, Remove, CompareExchange, ComputeIfPresent, ComputeOrInsert, IsEmpty, Keys, Range, First, Last, Floor, Below, Ceiling, Above, ValueCount}
use Rattle.face_runs.specs.declared.calls.Reply.{Reply}
use Rattle.face_runs.specs.declared.calls.Reply.TheVariants.{Old, Exchanged, Computed, Tested, Listed, Ranged, Found, Counted, Refused}

-- keys and values are stored as the numbers that they are written as
abbrev pub by_numbers : {K V : Type 0} → (K → ℕ) → (ℕ → K) → (V → ℕ) → (ℕ → V) → Conversion K V ℕ
by_numbers key_number key_read number of_number =
    record { key_number = key_number; key_read = key_read; stored = number; read = of_number }

module _ {K V : Type 0} where
  abbrev pub call_of : FaceCall K V → Call K V
  call_of (Get key) = get key
  call_of (Insert key value) = insert key value
  call_of (Remove key) = remove key
  call_of (CompareExchange key old new) = compare_exchange key old new
  call_of (ComputeIfPresent key answer) = compute_if_present key
  call_of (ComputeOrInsert key answer) = compute_or_insert key
  call_of IsEmpty = is_empty
  call_of Keys = keys
  call_of (Range start end limit) = range start end limit
  call_of First = nearest first
  call_of Last = nearest last
  call_of (Floor key) = nearest (floor key)
  call_of (Below key) = nearest (below key)
  call_of (Ceiling key) = nearest (ceiling key)
  call_of (Above key) = nearest (above key)
  call_of ValueCount = count

  -- what a call's closure returns, for any argument
  abbrev pub closure_of : FaceCall K V → Option ℕ → Option ℕ
  closure_of (ComputeIfPresent key answer) handed = answer
  closure_of (ComputeOrInsert key answer) handed = Some answer
  closure_of call handed = None

  abbrev pub answer_of : Reply K V → Answer K V ℕ
  answer_of (Old before) = replied (old_value before)
  answer_of (Exchanged r) = replied (exchanged r)
  answer_of (Computed r) = replied (computed r)
  answer_of (Tested b) = replied (tested b)
  answer_of (Listed ks) = replied (listed ks.items)
  answer_of (Ranged pairs) = replied (ranged pairs.items)
  answer_of (Found pair) = replied (found pair)
  answer_of (Counted n) = replied (counted n)
  answer_of Refused = refused

  -- the operation is this call with this answer
  pub record IsOperation (call : FaceCall K V) (answer : Answer K V ℕ) (operation : Operation K V ℕ) : Type 0 where
    pub called : operation.call ≡ call_of call
    pub asked : AnswersBy (closure_of call) operation.asked
    pub answered : operation.answer ≡ answer

  abbrev pub AreOperations
      : List (FaceCall K V) → List (Answer K V ℕ) → List (Operation K V ℕ) → Type 0
  AreOperations [] [] [] = Unit {0}
  AreOperations (call ∷ calls) (answer ∷ answers) (operation ∷ operations) =
      IsOperation call answer operation × AreOperations calls answers operations
  AreOperations calls answers operations = ⊥

  -- The calls with their answers are a legal run from the one map to the other.
  pub record AreLegalAnswers (c : Conversion K V ℕ) (r : MayRunOut)
      (m : Pairs ℕ) (calls : List (FaceCall K V)) (answers : List (Answer K V ℕ)) (n : Pairs ℕ)
      : Type 0 where
    pub operations : List (Operation K V ℕ)
    pub are : AreOperations calls answers operations
    pub legal : IsLegalRead c nat_eq r m operations n

  -- The calls with their replies are a legal run from the one map to the other.
  abbrev pub AreLegalReplies : Conversion K V ℕ → MayRunOut
      → Pairs ℕ → List (FaceCall K V) → List (Reply K V) → Pairs ℕ → Type 0
  AreLegalReplies c r m calls replies n = AreLegalAnswers c r m calls (map answer_of replies) n

  -- a run of one call
  abbrev pub IsLegalReply : Conversion K V ℕ → MayRunOut
      → Pairs ℕ → FaceCall K V → Reply K V → Pairs ℕ → Type 0
  IsLegalReply c r m call reply n = AreLegalReplies c r m (call ∷ []) (reply ∷ []) n
