-- What lines are answered in a run whose map refuses no range: the line of a range that found no memory for its pairs is
-- no operation of it.
use Rattle.std.specs.Prelude.{◌≡◌, ℕ, List, [], codes, Option, Some, None, ◌⊎◌, nat_eq}
use Rattle.std.specs.List.{flat_map}
use Rattle.spec_map.specs.Map.{Pairs}
use Rattle.spec_map.specs.Call.{Operation}
use Rattle.spec_map.specs.Legal.{IsLegal}
use Rattle.spec_map.specs.Refusal.{at_new_node}
use Rattle.face_runs.specs.inner.RefusedRanges.{operations_of, RefuseNoRange}
use Rattle.spec_text.specs.declared.command.Command.{Command}
use Rattle.spec_text.specs.declared.command.Command.TheVariants.{Range}
use Rattle.spec_text.specs.Bytes.{Sends}
use Rattle.spec_text.specs.Command.{SpellsCommand, IsNoCommand}
use Rattle.spec_text.specs.Lines.{ended}
use Rattle.text_run.specs.inner.ByRow.{ObeysByRow, AreAnsweredBy}

-- the text of a command that wasn't done: a range without memory for its pairs
abbrev pub IsUndone : Command → List ℕ → Type 0
IsUndone (Range start end limit) text = text ≡ codes "oom"
IsUndone command text = ⊥

-- the line is such a command
pub record FindsNoMemory (line text : List ℕ) : Type 0 where
  pub command : Command
  pub parses : SpellsCommand line command
  pub undone : IsUndone command text

-- The line is answered by the text: for an operation if it is a command that was done, and for none otherwise.
abbrev pub IsAnsweredIfDone : List ℕ → List ℕ → Option (Operation ℕ ℕ ℕ) → Type 0
IsAnsweredIfDone line text (Some operation) = ObeysByRow line text operation
IsAnsweredIfDone line text None =
    (IsNoCommand line × (text ≡ codes "bad line")) ⊎ FindsNoMemory line text

-- The texts answer the lines. What was done for them is a legal run from the one map to the other, and no range of it
-- was refused: no operation has that row of `IsText`.
pub record IsLegalWithoutRefusedRanges (m : Pairs ℕ) (lines texts : List (List ℕ)) (n : Pairs ℕ)
    : Type 0 where
  pub dones : List (Option (Operation ℕ ℕ ℕ))
  pub answers : AreAnsweredBy IsAnsweredIfDone lines texts dones
  pub legal : IsLegal nat_eq at_new_node m (operations_of dones) n
  pub ranges : RefuseNoRange (operations_of dones)

-- Some texts answer these lines so, from the empty map. They were written after old, up to what is left.
pub record AnswersWithoutRefusedRanges (lines : List (List ℕ)) (m : Pairs ℕ)
    (old new : Option (List ℕ)) (left : List ℕ) : Type 0 where
  pub texts : List (List ℕ)
  pub run : IsLegalWithoutRefusedRanges [] lines texts m
  pub sends : Sends old new (flat_map ended texts) left
