-- The answers to lines, in the middle of a run.
use Rattle.std.specs.Prelude.{ℕ, List, [], ◌∷◌, Option, nat_eq}
use Rattle.std.specs.List.{flat_map, filter_map, AllZip}
use Rattle.spec_map.specs.Map.{Pairs}
use Rattle.spec_map.specs.Call.{Operation}
use Rattle.spec_map.specs.Legal.{IsLegal}
use Rattle.spec_map.specs.Refusal.{at_new_node}
use Rattle.spec_text.specs.Answer.{IsAnswered}
use Rattle.spec_text.specs.Bytes.{Sends}
use Rattle.spec_text.specs.Lines.{ended}
use Rattle.text_run.specs.inner.Parts.{ShowsWhole, ShowsPart, BreaksReading, BreaksWriting}

-- a line with its answer: the text, and the operation if it is a command
abbrev pub Answer : Type 0
Answer = List ℕ × Option (Operation ℕ ℕ ℕ)

abbrev pub operations_in : List Answer → List (Operation ℕ ℕ ℕ)
operations_in answers = filter_map (λ a. a.1) answers

abbrev pub texts_in : List Answer → List ℕ
texts_in answers = flat_map (λ a. ended a.0) answers

-- These answer the lines, and what was done is a legal run from the empty map to this one. The texts were written after
-- old, up to what is left.
pub record AnswersLines (lines : List (List ℕ)) (m : Pairs ℕ)
    (old new : Option (List ℕ)) (left : List ℕ) : Type 0 where
  pub answers : List Answer
  pub each : AllZip IsAnswered lines answers
  pub legal : IsLegal nat_eq at_new_node [] (operations_in answers) m
  pub sends : Sends old new (texts_in answers) left

-- the line is answered by the text on the map m, which leaves the map n
pub record AnswersLine (m : Pairs ℕ) (line text : List ℕ) (n : Pairs ℕ) : Type 0 where
  pub done : Option (Operation ℕ ℕ ℕ)
  pub answered : IsAnswered line (text, done)
  pub legal : IsLegal nat_eq at_new_node m (operations_in ((text, done) ∷ [])) n

-- the lines of some bytes, or of what was read, are answered so
abbrev pub AnswersWhole : List ℕ → Option (List ℕ) → Option (List ℕ) → Type 0
AnswersWhole bytes old new = ShowsWhole AnswersLines bytes old new

abbrev pub AnswersPart : List ℕ → Option (List ℕ) → Option (List ℕ) → Type 0
AnswersPart bytes old new = ShowsPart AnswersLines bytes old new

abbrev pub StopsReading
    : Option (List ℕ) → Option (List ℕ) → Option (List ℕ) → Option (List ℕ) → Type 0
StopsReading input input' output output' = BreaksReading AnswersLines input input' output output'

abbrev pub StopsWriting
    : Option (List ℕ) → Option (List ℕ) → Option (List ℕ) → Option (List ℕ) → Type 0
StopsWriting input input' output output' = BreaksWriting AnswersLines input input' output output'
