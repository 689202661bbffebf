-- The answers without the operations of refused ranges, which leave the map.
use Rattle.std.proofs.Common.{◌≡◌, ℕ, List, [], ◌∷◌, Option, Some, None, ◌⊎◌, inl, inr, nat_eq, refl, ap, subst}
use Rattle.spec_map.specs.Map.{Pairs}
use Rattle.spec_map.specs.Call.{Answer as Outcome, replied, refused, Operation}
use Rattle.spec_map.specs.Legal.{Allows, IsLegal, after_answer, after_operation}
use Rattle.spec_map.specs.Refusal.{at_new_node}
use Rattle.face_runs.specs.inner.RefusedRanges.{IsRefusedRange, operations_of}
use Rattle.spec_text.specs.declared.command.Command.{Command}
use Rattle.spec_text.specs.declared.command.Command.TheVariants.{Get, Insert, Remove, Exchange, Add, Put, Range, Keys, Empty, First, Last, Floor, Ceiling, Count}
use Rattle.spec_text.specs.Command.{command_call}
use Rattle.text_run.proofs.ByRow.{by_row}
use Rattle.text_run.specs.Run.{Answers}
use Rattle.text_run.specs.inner.ByRow.{IsText, ObeysByRow, IsAnsweredByRow, AreAnsweredBy}
use Rattle.text_run.specs.inner.RefusedRanges.{IsUndone, IsLegalWithoutRefusedRanges, AnswersWithoutRefusedRanges}

-- a command is a range that was refused, or its outcome isn't that
undone_or_done : (command : Command) (outcome : Outcome ℕ ℕ ℕ) (text : List ℕ) → IsText command outcome text
    → (IsUndone command text × (outcome ≡ refused)) ⊎ (IsRefusedRange (command_call command) outcome → ⊥)
undone_or_done (Range start end limit) refused text is = inl (is, refl)
undone_or_done (Range start end limit) (replied reply) text is = inr (λ h. h)
undone_or_done (Get key) outcome text is = inr (λ h. h)
undone_or_done (Insert key value) outcome text is = inr (λ h. h)
undone_or_done (Remove key) outcome text is = inr (λ h. h)
undone_or_done (Exchange key old new) outcome text is = inr (λ h. h)
undone_or_done (Add key more) outcome text is = inr (λ h. h)
undone_or_done (Put key more) outcome text is = inr (λ h. h)
undone_or_done Keys outcome text is = inr (λ h. h)
undone_or_done Empty outcome text is = inr (λ h. h)
undone_or_done First outcome text is = inr (λ h. h)
undone_or_done Last outcome text is = inr (λ h. h)
undone_or_done (Floor key) outcome text is = inr (λ h. h)
undone_or_done (Ceiling key) outcome text is = inr (λ h. h)
undone_or_done Count outcome text is = inr (λ h. h)

module _ (m n : Pairs ℕ) (line text : List ℕ) (lines texts : List (List ℕ)) (operation : Operation ℕ ℕ ℕ) (o : ObeysByRow line text operation) where
  -- the line of a refused range before a run is no operation of it
  undone_more : IsUndone o.command text → operation.answer ≡ refused → IsLegalWithoutRefusedRanges (after_operation nat_eq m operation) lines texts n
      → IsLegalWithoutRefusedRanges m (line ∷ lines) (text ∷ texts) n
  undone_more undone refuses rest =
      let stays : after_operation nat_eq m operation ≡ m = ap (after_answer nat_eq m operation.call operation.asked) refuses in
      let same = subst (λ (l : Pairs ℕ). IsLegalWithoutRefusedRanges l lines texts n) stays rest in
      record {
        dones = None ∷ same.dones;
        answers = (inr (record { command = o.command; parses = o.parses; undone = undone }), same.answers);
        legal = same.legal;
        ranges = same.ranges;
      }

  -- that of any other command is one
  operation_more : Allows nat_eq at_new_node m operation → (IsRefusedRange (command_call o.command) operation.answer → ⊥)
      → IsLegalWithoutRefusedRanges (after_operation nat_eq m operation) lines texts n → IsLegalWithoutRefusedRanges m (line ∷ lines) (text ∷ texts) n
  operation_more allowed isnt rest =
      record { dones = Some operation ∷ rest.dones; answers = (o, rest.answers); legal = (allowed, rest.legal); ranges = (rw o.asks isnt, rest.ranges) }

without : (m n : Pairs ℕ) (lines texts : List (List ℕ)) (dones : List (Option (Operation ℕ ℕ ℕ))) → AreAnsweredBy IsAnsweredByRow lines texts dones
    → IsLegal nat_eq at_new_node m (operations_of dones) n → IsLegalWithoutRefusedRanges m lines texts n
without m n [] [] [] all legal = record { dones = []; answers = tt; legal = legal; ranges = tt }
without m n (line ∷ lines) (text ∷ texts) (None ∷ dones) all legal =
    let rest = without m n lines texts dones all.1 legal in
    record { dones = None ∷ rest.dones; answers = (inl all.0, rest.answers); legal = rest.legal; ranges = rest.ranges }
without m n (line ∷ lines) (text ∷ texts) (Some operation ∷ dones) all legal =
    let rest = without (after_operation nat_eq m operation) n lines texts dones all.1 legal.1 in
    elim (undone_or_done all.0.command operation.answer text all.0.answers) [
      | inl undone ↦ undone_more m n line text lines texts operation all.0 undone.0 undone.1 rest
      | inr isnt ↦ operation_more m n line text lines texts operation all.0 legal.0 isnt rest
    ]
without m n [] [] (d ∷ dones) all legal = absurd all
without m n [] (text ∷ texts) dones all legal = absurd all
without m n (line ∷ lines) [] dones all legal = absurd all
without m n (line ∷ lines) (text ∷ texts) [] all legal = absurd all

pub without_refused_ranges : (lines : List (List ℕ)) (output output' : Option (List ℕ)) (left : List ℕ) (a : Answers lines output output' left) → AnswersWithoutRefusedRanges lines a.map output output' left
without_refused_ranges lines output output' left a =
    let rows = by_row lines output output' left a in
    record { texts = rows.texts; run = without [] a.map lines rows.texts rows.dones rows.answers rows.legal; sends = rows.sends }
