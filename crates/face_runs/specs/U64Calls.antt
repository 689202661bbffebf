-- The calls of a face with numbers as keys.
use Rattle.std.specs.Prelude.{ℕ, List, [], ◌∷◌, map}
use Rattle.std.specs.Int.{from_be_bytes, w64}
use Rattle.spec_map.specs.Map.{Pairs}
use Rattle.spec_map.specs.Refusal.{MayRunOut}
use Rattle.spec_map.specs.Call.{Answer, old_value, ranged, replied, refused}
use Rattle.face_runs.specs.Calls.{by_numbers, AreLegalAnswers}
use Rattle.face_runs.specs.declared.calls.Call.{Call as FaceCall}
use Rattle.face_runs.specs.declared.calls.Call.TheVariants as face
use Rattle.face_runs.specs.declared.u64_calls.U64Call.{U64Call}
use Rattle.face_runs.specs.declared.u64_calls.U64Call.TheVariants.{Get, Insert, Remove, Range}
use Rattle.face_runs.specs.declared.u64_calls.U64Reply.{U64Reply}
use Rattle.face_runs.specs.declared.u64_calls.U64Reply.TheVariants.{Old, Ranged, Refused}

abbrev pub face_call : {V : Type 0} → U64Call V → FaceCall ℕ V
face_call (Get key) = face.Get key
face_call (Insert key val) = face.Insert key val
face_call (Remove key) = face.Remove key
face_call (Range start end limit) = face.Range start end limit

-- the answer; the keys of a range are the numbers of their bytes
abbrev pub number_answer : {V : Type 0} → U64Reply V → Answer ℕ V ℕ
number_answer (Old before) = replied (old_value before)
number_answer (Ranged pairs) =
    replied (ranged (map (λ e. (from_be_bytes w64 e.0, e.1)) pairs.items))
number_answer Refused = refused

module _ {V : Type 0} (number : V → ℕ) (of_number : ℕ → V) (r : MayRunOut) where
  -- The calls with their replies are a legal run from the one map to the other.
  abbrev pub AreLegalU64Replies : Pairs ℕ → List (U64Call V) → List (U64Reply V) → Pairs ℕ → Type 0
  AreLegalU64Replies m calls replies n =
      AreLegalAnswers (by_numbers (λ key. key) (λ key. key) number of_number) r
      m (map face_call calls) (map number_answer replies) n

  -- one call with its reply is
  abbrev pub IsLegalU64Reply : Pairs ℕ → U64Call V → U64Reply V → Pairs ℕ → Type 0
  IsLegalU64Reply m call reply n = AreLegalU64Replies m (call ∷ []) (reply ∷ []) n
