-- What a line is answered.
use Rattle.std.specs.Prelude.{◌≡◌, ℕ, List, ◌++◌, length, codes, decimal, Bool, true, false, Option, Some, None}
use Rattle.std.specs.List.{flat_map}
use Rattle.spec_map.specs.Call.{old_value, exchanged, computed, tested, listed, ranged, found, counted, Answer, replied, refused, Operation}
use Rattle.spec_map.specs.Legal.{AnswersBy}
use Rattle.spec_text.specs.declared.command.Command.{Command}
use Rattle.spec_text.specs.declared.command.Command.TheVariants.{Insert, Put}
use Rattle.spec_text.specs.Command.{SpellsCommand, IsNoCommand, command_call, command_closure}
use Rattle.spec_text.specs.Value.{value_text, exchanged_text, computed_text, found_text, key_text, pair_text}

abbrev pub test_text : Bool → List ℕ
test_text true = codes "true"
test_text false = codes "false"

-- the text of an outcome: of a list, how many it has and all of them in order
abbrev pub answer_text : Command → Answer ℕ ℕ ℕ → List ℕ
answer_text (Insert key value) (replied (old_value before)) = codes "ok " ++ value_text before
answer_text (Put key more) (replied (old_value before)) = codes "ok " ++ value_text before
answer_text command (replied (old_value value)) = value_text value
answer_text command (replied (exchanged result)) = exchanged_text result
answer_text command (replied (computed result)) = computed_text result
answer_text command (replied (ranged pairs)) = decimal (length pairs) ++ flat_map pair_text pairs
answer_text command (replied (listed keys)) = decimal (length keys) ++ flat_map key_text keys
answer_text command (replied (tested b)) = test_text b
answer_text command (replied (found pair)) = found_text pair
answer_text command (replied (counted n)) = decimal n
answer_text command refused = codes "oom"

-- the line is a command that asks for the call, its closure answered it, and the text is that of the outcome
pub record Obeys (line text : List ℕ) (operation : Operation ℕ ℕ ℕ) : Type 0 where
  pub command : Command
  pub parses : SpellsCommand line command
  pub asks : operation.call ≡ command_call command
  pub closure : AnswersBy (command_closure command) operation.asked
  pub answers : text ≡ answer_text command operation.answer

-- The line is answered by the text: for an operation if it is a command, and for none otherwise.
abbrev pub IsAnswered : List ℕ → List ℕ × Option (Operation ℕ ℕ ℕ) → Type 0
IsAnswered line (text, Some operation) = Obeys line text operation
IsAnswered line (text, None) = IsNoCommand line × (text ≡ codes "bad line")
