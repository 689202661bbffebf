-- The operations of a run but its refused ranges, which leave the map.
use Rattle.std.proofs.Common.{◌≡◌, ℕ, List, [], ◌∷◌, Some, None, ◌⊎◌, inl, inr, nat_eq, refl, ap, subst, ◌∙◌, sym}
use Rattle.std.specs.List.{AllZip}
use Rattle.spec_map.specs.Map.{Pairs}
use Rattle.spec_map.specs.Call.{Call, get, insert, remove, compare_exchange, compute_if_present, compute_or_insert, is_empty, keys, range, nearest, count, Answer, replied, refused, Operation}
use Rattle.spec_map.specs.Refusal.{MayRunOut}
use Rattle.spec_map.specs.Legal.{IsLegal, after_answer, after_operation}
use Rattle.face_runs.specs.Calls.{call_of, IsOperation, AreOperations, AreLegalAnswers}
use Rattle.face_runs.specs.Conversion.{Conversion, answer_read, IsReadAs}
use Rattle.face_runs.specs.PayloadCalls.{payload_call, ArePayloadOperations}
use Rattle.face_runs.specs.inner.RefusedRanges.{IsRefusedRange, RefuseNoRange, AreLegalWithoutRefusedRanges}
use Rattle.face_runs.specs.declared.calls.Call.{Call as FaceCall}
use Rattle.face_runs.specs.declared.payload_calls.PayloadCall.{PayloadCall}
use Rattle.face_runs.specs.declared.payload_calls.PayloadCall.TheVariants.{Get, Insert, Remove, ComputeIfPresent, IsEmpty, Keys}
use Rattle.face_runs.specs.declared.payload_calls.PayloadReply.{PayloadReply}

module _ {K V P : Type 0} where
  is_or_isnt : (call : Call K V) (answer : Answer K V P) → IsRefusedRange call answer ⊎ (IsRefusedRange call answer → ⊥)
  is_or_isnt (range a b limit) refused = inl tt
  is_or_isnt (range a b limit) (replied x) = inr (λ h. h)
  is_or_isnt (get k) answer = inr (λ h. h)
  is_or_isnt (insert k v) answer = inr (λ h. h)
  is_or_isnt (remove k) answer = inr (λ h. h)
  is_or_isnt (compare_exchange k old new) answer = inr (λ h. h)
  is_or_isnt (compute_if_present k) answer = inr (λ h. h)
  is_or_isnt (compute_or_insert k) answer = inr (λ h. h)
  is_or_isnt is_empty answer = inr (λ h. h)
  is_or_isnt keys answer = inr (λ h. h)
  is_or_isnt (nearest near) answer = inr (λ h. h)
  is_or_isnt count answer = inr (λ h. h)

  is_refused : (call : Call K V) (answer : Answer K V P) → IsRefusedRange call answer → answer ≡ refused
  is_refused (range a b limit) refused h = refl
  is_refused (range a b limit) (replied x) h = absurd h
  is_refused (get k) answer h = absurd h
  is_refused (insert k v) answer h = absurd h
  is_refused (remove k) answer h = absurd h
  is_refused (compare_exchange k old new) answer h = absurd h
  is_refused (compute_if_present k) answer h = absurd h
  is_refused (compute_or_insert k) answer h = absurd h
  is_refused is_empty answer h = absurd h
  is_refused keys answer h = absurd h
  is_refused (nearest near) answer h = absurd h
  is_refused count answer h = absurd h

module _ {K V : Type 0} (c : Conversion K V ℕ) (r : MayRunOut) where
  -- a refusal is read from one
  refused_before : (call : Call K V) (plain : Answer ℕ ℕ ℕ) → refused ≡ answer_read c call plain → plain ≡ refused
  refused_before call refused is = refl
  refused_before call (replied x) is = absurd (cc)

  -- the map after a refused range
  left_by_range : (m : Pairs ℕ) (call : FaceCall K V) (answer : Answer K V ℕ) (operation : Operation K V ℕ) (plain : Operation ℕ ℕ ℕ)
      → IsOperation call answer operation → IsReadAs c plain operation → IsRefusedRange (call_of call) answer → after_operation nat_eq m plain ≡ m
  left_by_range m call answer operation plain is read ranged =
      let refuses : operation.answer ≡ refused = is.answered ∙ is_refused (call_of call) answer ranged in
      ap (after_answer nat_eq m plain.call plain.asked) (refused_before operation.call plain.answer (sym refuses ∙ read.answer))

  -- a refused range before a run is no operation of it
  range_more : (m n : Pairs ℕ) (call : FaceCall K V) (calls : List (FaceCall K V)) (answer : Answer K V ℕ) (answers : List (Answer K V ℕ))
      → IsRefusedRange (call_of call) answer → AreLegalWithoutRefusedRanges c r m calls answers n → AreLegalWithoutRefusedRanges c r m (call ∷ calls) (answer ∷ answers) n
  range_more m n call calls answer answers ranged rest =
      record { dones = None ∷ rest.dones; done = (ranged, rest.done); legal = rest.legal; ranges = rest.ranges }

  -- any other call is one
  operation_more : (m n : Pairs ℕ) (call : FaceCall K V) (calls : List (FaceCall K V)) (answer : Answer K V ℕ) (answers : List (Answer K V ℕ)) (operation : Operation K V ℕ) (plain : Operation ℕ ℕ ℕ)
      → IsOperation call answer operation → IsReadAs c plain operation → IsLegal nat_eq r m (plain ∷ []) (after_operation nat_eq m plain) → (IsRefusedRange (call_of call) answer → ⊥)
      → AreLegalWithoutRefusedRanges c r (after_operation nat_eq m plain) calls answers n → AreLegalWithoutRefusedRanges c r m (call ∷ calls) (answer ∷ answers) n
  operation_more m n call calls answer answers operation plain is read legal isnt rest = record {
    dones = Some operation ∷ rest.dones;
    done = (is, rest.done);
    legal = record { plain = plain ∷ rest.legal.plain; legal = (legal.0, rest.legal.legal); read = (read, rest.legal.read) };
    ranges = (rw (is.called, is.answered) isnt, rest.ranges);
  }

  without : (m n : Pairs ℕ) (calls : List (FaceCall K V)) (answers : List (Answer K V ℕ)) (ds : List (Operation K V ℕ)) (ps : List (Operation ℕ ℕ ℕ))
      → AreOperations calls answers ds → IsLegal nat_eq r m ps n → AllZip (IsReadAs c) ps ds → AreLegalWithoutRefusedRanges c r m calls answers n
  without m n [] [] [] [] are legal read =
      record { dones = []; done = tt; legal = record { plain = []; legal = legal; read = tt }; ranges = tt }
  without m n [] [] [] (p ∷ ps) are legal read = absurd read
  without m n [] [] (d ∷ ds) ps are legal read = absurd are
  without m n [] (y ∷ answers) ds ps are legal read = absurd are
  without m n (x ∷ calls) [] ds ps are legal read = absurd are
  without m n (x ∷ calls) (y ∷ answers) [] ps are legal read = absurd are
  without m n (x ∷ calls) (y ∷ answers) (d ∷ ds) [] are legal read = absurd read
  without m n (x ∷ calls) (y ∷ answers) (d ∷ ds) (p ∷ ps) are legal read =
      let rest = without (after_operation nat_eq m p) n calls answers ds ps are.1 legal.1 read.1 in
      elim (is_or_isnt (call_of x) y) [
        | inl ranged ↦ range_more m n x calls y answers ranged
            (subst (λ (l : Pairs ℕ). AreLegalWithoutRefusedRanges c r l calls answers n) (left_by_range m x y d p are.0 read.0 ranged) rest)
        | inr isnt ↦ operation_more m n x calls y answers d p are.0 read.0 (legal.0, refl) isnt rest
      ]

  pub without_refused_ranges : (m n : Pairs ℕ) (calls : List (FaceCall K V)) (answers : List (Answer K V ℕ))
      → AreLegalAnswers c r m calls answers n → AreLegalWithoutRefusedRanges c r m calls answers n
  without_refused_ranges m n calls answers run = without m n calls answers run.operations run.legal.plain run.are run.legal.legal run.legal.read

-- a call on payloads is no range
module _ {K P : Type 0} (number : K → ℕ) (read : ℕ → K) (alike : P → P → Type 0) where
  no_range : (call : PayloadCall K P) (answer : Answer ℕ P P) → IsRefusedRange (payload_call number read alike call) answer → ⊥
  no_range (Get key) answer h = h
  no_range (Insert key payload) answer h = h
  no_range (Remove key) answer h = h
  no_range (ComputeIfPresent key given) answer h = h
  no_range IsEmpty answer h = h
  no_range Keys answer h = h

  pub no_ranges : (calls : List (PayloadCall K P)) (replies : List (PayloadReply K P)) (ds : List (Operation ℕ P P))
      → ArePayloadOperations number read alike calls replies ds → RefuseNoRange ds
  no_ranges [] [] [] are = tt
  no_ranges [] [] (d ∷ ds) are = absurd are
  no_ranges [] (y ∷ replies) ds are = absurd are
  no_ranges (x ∷ calls) [] ds are = absurd are
  no_ranges (x ∷ calls) (y ∷ replies) [] are = absurd are
  no_ranges (x ∷ calls) (y ∷ replies) (d ∷ ds) are = (rw (are.0.called) (no_range x d.answer), no_ranges calls replies ds are.1)
