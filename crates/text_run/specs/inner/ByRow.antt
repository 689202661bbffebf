-- What a line is answered, in the words of an earlier form of `EndsRun`: a row for each command and each outcome that
-- it can have.
use Rattle.std.specs.Prelude.{◌≡◌, ℕ, List, [], ◌∷◌, ◌++◌, length, codes, decimal, Option, Some, None, nat_eq}
use Rattle.std.specs.List.{flat_map}
use Rattle.spec_map.specs.Map.{Pairs}
use Rattle.spec_map.specs.Call.{old_value, exchanged, computed, tested, listed, ranged, found, counted, Answer, replied, refused, Operation}
use Rattle.spec_map.specs.Legal.{IsLegal, AnswersBy}
use Rattle.spec_map.specs.Refusal.{at_new_node}
use Rattle.face_runs.specs.inner.RefusedRanges.{operations_of}
use Rattle.spec_text.specs.declared.command.Command.{Command}
use Rattle.spec_text.specs.declared.command.Command.TheVariants.{Get, Insert, Remove, Exchange, Add, Put, Range, Keys, Empty, First, Last, Floor, Ceiling, Count}
use Rattle.spec_text.specs.Answer.{test_text}
use Rattle.spec_text.specs.Bytes.{Sends}
use Rattle.spec_text.specs.Command.{SpellsCommand, IsNoCommand, command_call, command_closure}
use Rattle.spec_text.specs.Lines.{ended}
use Rattle.spec_text.specs.Value.{value_text, exchanged_text, computed_text, found_text, key_text, pair_text}

-- how many there are, and all of them in order
abbrev pub keys_text : List ℕ → List ℕ
keys_text keys = decimal (length keys) ++ flat_map key_text keys

abbrev pub pairs_text : List (ℕ × ℕ) → List ℕ
pairs_text pairs = decimal (length pairs) ++ flat_map pair_text pairs

-- the text of what a command is answered, if it can be answered so
abbrev pub IsText : Command → Answer ℕ ℕ ℕ → List ℕ → Type 0
IsText (Get key) (replied (old_value value)) text = text ≡ value_text value
IsText (Insert key value) (replied (old_value before)) text =
    text ≡ codes "ok " ++ value_text before
IsText (Insert key value) refused text = text ≡ codes "oom"
IsText (Remove key) (replied (old_value before)) text = text ≡ value_text before
IsText (Exchange key old new) (replied (exchanged result)) text = text ≡ exchanged_text result
IsText (Add key more) (replied (computed result)) text = text ≡ computed_text result
IsText (Put key more) (replied (old_value before)) text = text ≡ codes "ok " ++ value_text before
IsText (Put key more) refused text = text ≡ codes "oom"
IsText (Range start end limit) (replied (ranged pairs)) text = text ≡ pairs_text pairs
IsText (Range start end limit) refused text = text ≡ codes "oom"
IsText Keys (replied (listed keys)) text = text ≡ keys_text keys
IsText Keys refused text = text ≡ codes "oom"
IsText Empty (replied (tested b)) text = text ≡ test_text b
IsText First (replied (found pair)) text = text ≡ found_text pair
IsText Last (replied (found pair)) text = text ≡ found_text pair
IsText (Floor key) (replied (found pair)) text = text ≡ found_text pair
IsText (Ceiling key) (replied (found pair)) text = text ≡ found_text pair
IsText Count (replied (counted n)) text = text ≡ decimal n
IsText command answer text = ⊥

-- the line is a command that asks for the call, the closure answered as that command's, and the text is that of the
-- answer
pub record ObeysByRow (line text : List ℕ) (operation : Operation ℕ ℕ ℕ) : Type 0 where
  pub command : Command
  pub parses : SpellsCommand line command
  pub asks : operation.call ≡ command_call command
  pub closure : AnswersBy (command_closure command) operation.asked
  pub answers : IsText command operation.answer text

-- The line is answered by the text: for an operation if it is a command, and for none otherwise.
abbrev pub IsAnsweredByRow : List ℕ → List ℕ → Option (Operation ℕ ℕ ℕ) → Type 0
IsAnsweredByRow line text (Some operation) = ObeysByRow line text operation
IsAnsweredByRow line text None = IsNoCommand line × (text ≡ codes "bad line")

module _ (IsAnswer : List ℕ → List ℕ → Option (Operation ℕ ℕ ℕ) → Type 0) where
  -- the lines are answered by the texts, one after another
  abbrev pub AreAnsweredBy
      : List (List ℕ) → List (List ℕ) → List (Option (Operation ℕ ℕ ℕ)) → Type 0
  AreAnsweredBy [] [] [] = Unit {0}
  AreAnsweredBy (line ∷ lines) (text ∷ texts) (done ∷ dones) =
      IsAnswer line text done × AreAnsweredBy lines texts dones
  AreAnsweredBy lines texts dones = ⊥

-- Some texts answer these lines. What was done for them is a legal run from the empty map. The texts were written
-- after old, up to what is left.
pub record AnswersByRow (lines : List (List ℕ)) (m : Pairs ℕ)
    (old new : Option (List ℕ)) (left : List ℕ) : Type 0 where
  pub texts : List (List ℕ)
  pub dones : List (Option (Operation ℕ ℕ ℕ))
  pub answers : AreAnsweredBy IsAnsweredByRow lines texts dones
  pub legal : IsLegal nat_eq at_new_node [] (operations_of dones) m
  pub sends : Sends old new (flat_map ended texts) left
