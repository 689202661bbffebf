-- A run of calls whose map refuses no range: a range that found no memory for its pairs is no operation of it.
use Rattle.std.specs.Prelude.{ℕ, List, [], ◌∷◌, Option, Some, None, nat_eq}
use Rattle.std.specs.List.{AllByRecursion}
use Rattle.spec_map.specs.Map.{Pairs}
use Rattle.spec_map.specs.Call.{Call, range, Answer, refused, Operation}
use Rattle.spec_map.specs.Refusal.{MayRunOut}
use Rattle.face_runs.specs.Calls.{call_of, IsOperation}
use Rattle.face_runs.specs.Conversion.{Conversion, IsLegalRead}
use Rattle.face_runs.specs.declared.calls.Call.{Call as FaceCall}

-- a range that was refused
abbrev pub IsRefusedRange : {K V P : Type 0} → Call K V → Answer K V P → Type 0
IsRefusedRange (range start end limit) refused = Unit {0}
IsRefusedRange call answer = ⊥

-- no range is refused
abbrev pub RefuseNoRange : {K V P : Type 0} → List (Operation K V P) → Type 0
RefuseNoRange operations =
    AllByRecursion (λ operation. IsRefusedRange operation.call operation.answer → ⊥) operations

-- the operations that were done, in order
abbrev pub operations_of : {K V P : Type 0} → List (Option (Operation K V P)) → List (Operation K V P)
operations_of [] = []
operations_of (None ∷ dones) = operations_of dones
operations_of (Some operation ∷ dones) = operation ∷ operations_of dones

module _ {K V : Type 0} where
  -- what was done for a call with its answer: an operation, or none for a range that was refused
  abbrev pub IsDone : FaceCall K V → Answer K V ℕ → Option (Operation K V ℕ) → Type 0
  IsDone call answer (Some operation) = IsOperation call answer operation
  IsDone call answer None = IsRefusedRange (call_of call) answer

  abbrev pub AreDone
      : List (FaceCall K V) → List (Answer K V ℕ) → List (Option (Operation K V ℕ)) → Type 0
  AreDone [] [] [] = Unit {0}
  AreDone (call ∷ calls) (answer ∷ answers) (done ∷ dones) =
      IsDone call answer done × AreDone calls answers dones
  AreDone calls answers dones = ⊥

  -- The calls with their answers, without the ranges that were refused, are a legal run from the one map to the other.
  pub record AreLegalWithoutRefusedRanges (c : Conversion K V ℕ) (r : MayRunOut)
      (m : Pairs ℕ) (calls : List (FaceCall K V)) (answers : List (Answer K V ℕ)) (n : Pairs ℕ)
      : Type 0 where
    pub dones : List (Option (Operation K V ℕ))
    pub done : AreDone calls answers dones
    pub legal : IsLegalRead c nat_eq r m (operations_of dones) n
    pub ranges : RefuseNoRange (operations_of dones)
