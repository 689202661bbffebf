-- From answers to answers by row: in a legal run a command has no outcomes but those of its rows.
use Rattle.std.proofs.Common.{◌≡◌, ℕ, List, [], ◌∷◌, ◌++◌, map, Option, Some, None, nat_eq, refl, ap}
use Rattle.std.specs.List.{flat_map, AllZip}
use Rattle.spec_map.specs.Map.{Pairs}
use Rattle.spec_map.specs.Call.{ClosureCall, Answer as Outcome, replied, refused, Operation}
use Rattle.spec_map.specs.Legal.{MayAnswer, Allows, IsLegal, after_operation}
use Rattle.spec_map.specs.Refusal.{at_new_node}
use Rattle.face_runs.specs.inner.RefusedRanges.{operations_of}
use Rattle.spec_text.specs.declared.command.Command.{Command}
use Rattle.spec_text.specs.declared.command.Command.TheVariants.{Get, Insert, Remove, Exchange, Add, Put, Range, Keys, Empty, First, Last, Floor, Ceiling, Count}
use Rattle.spec_text.specs.Answer.{answer_text, Obeys, IsAnswered}
use Rattle.spec_text.specs.Command.{command_call}
use Rattle.spec_text.specs.Lines.{ended}
use Rattle.text_run.specs.Run.{Answers}
use Rattle.text_run.specs.inner.Answers.{Answer, operations_in, texts_in}
use Rattle.text_run.specs.inner.ByRow.{IsText, ObeysByRow, IsAnsweredByRow, AreAnsweredBy, AnswersByRow}

-- the row of an outcome that the map may give
row : (m : Pairs ℕ) (command : Command) (asked : ClosureCall ℕ) (outcome : Outcome ℕ ℕ ℕ) → MayAnswer nat_eq at_new_node m (command_call command) asked outcome
    → IsText command outcome (answer_text command outcome)
row m (Get key) asked (replied reply) may = rw may.1 refl
row m (Insert key value) asked (replied reply) may = rw may.1 refl
row m (Remove key) asked (replied reply) may = rw may.1 refl
row m (Exchange key old new) asked (replied reply) may = rw may.1 refl
row m (Add key more) asked (replied reply) may = rw may.1 refl
row m (Put key more) asked (replied reply) may = rw may.1 refl
row m (Range start end limit) asked (replied reply) may = rw may.1 refl
row m Keys asked (replied reply) may = rw may.1 refl
row m Empty asked (replied reply) may = rw may.1 refl
row m First asked (replied reply) may = rw may.1 refl
row m Last asked (replied reply) may = rw may.1 refl
row m (Floor key) asked (replied reply) may = rw may.1 refl
row m (Ceiling key) asked (replied reply) may = rw may.1 refl
row m Count asked (replied reply) may = rw may.1 refl
row m (Get key) asked refused may = absurd may.1
row m (Insert key value) asked refused may = refl
row m (Remove key) asked refused may = absurd may.1
row m (Exchange key old new) asked refused may = absurd may.1
row m (Add key more) asked refused may = absurd may.1
row m (Put key more) asked refused may = refl
row m (Range start end limit) asked refused may = refl
row m Keys asked refused may = refl
row m Empty asked refused may = absurd may.1
row m First asked refused may = absurd may.1
row m Last asked refused may = absurd may.1
row m (Floor key) asked refused may = absurd may.1
row m (Ceiling key) asked refused may = absurd may.1
row m Count asked refused may = absurd may.1

obeys : (m : Pairs ℕ) (line text : List ℕ) (operation : Operation ℕ ℕ ℕ) → Obeys line text operation → Allows nat_eq at_new_node m operation → ObeysByRow line text operation
obeys m line text operation o may = record {
  command = o.command;
  parses = o.parses;
  asks = o.asks;
  closure = o.closure;
  answers = rw o.answers (row m o.command operation.asked operation.answer (rw o.asks at may));
}

-- the texts and the operations apart
abbrev texts_of : List Answer → List (List ℕ)
texts_of answers = map (λ (a : Answer). a.0) answers

abbrev dones_of : List Answer → List (Option (Operation ℕ ℕ ℕ))
dones_of answers = map (λ (a : Answer). a.1) answers

texts_apart : (answers : List Answer) → flat_map ended (texts_of answers) ≡ texts_in answers
texts_apart [] = refl
texts_apart (a ∷ answers) = ap (λ ws. ended a.0 ++ ws) (texts_apart answers)

operations_apart : (answers : List Answer) → operations_of (dones_of answers) ≡ operations_in answers
operations_apart [] = refl
operations_apart ((text, None) ∷ answers) = operations_apart answers
operations_apart ((text, Some operation) ∷ answers) = ap (λ os. operation ∷ os) (operations_apart answers)

all_by_row : (m n : Pairs ℕ) (lines : List (List ℕ)) (answers : List Answer) → AllZip IsAnswered lines answers → IsLegal nat_eq at_new_node m (operations_in answers) n
    → AreAnsweredBy IsAnsweredByRow lines (texts_of answers) (dones_of answers)
all_by_row m n [] [] all legal = tt
all_by_row m n (line ∷ lines) ((text, None) ∷ answers) all legal = (all.0, all_by_row m n lines answers all.1 legal)
all_by_row m n (line ∷ lines) ((text, Some operation) ∷ answers) all legal =
    (obeys m line text operation all.0 legal.0, all_by_row (after_operation nat_eq m operation) n lines answers all.1 legal.1)
all_by_row m n [] (a ∷ answers) all legal = absurd all
all_by_row m n (line ∷ lines) [] all legal = absurd all

pub by_row : (lines : List (List ℕ)) (output output' : Option (List ℕ)) (left : List ℕ) (a : Answers lines output output' left) → AnswersByRow lines a.map output output' left
by_row lines output output' left a = record {
  texts = texts_of a.answers;
  dones = dones_of a.answers;
  answers = all_by_row [] a.map lines a.answers a.each a.legal;
  legal = rw (operations_apart a.answers) a.legal;
  sends = rw (texts_apart a.answers) a.sends;
}
