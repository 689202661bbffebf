-- Words that are read as a command.
use Rattle.std.specs.Prelude.{ℕ, ◌<◌, ◌≤◌, ◌^◌, List, ◌∷◌, Option}
use Rattle.text_lines.specs.inner.Reading.{FitsU64, ReadsWords}
use Rattle.text_lines.specs.inner.Words.{words_left}
use Rattle.text_lines.specs.declared.words.Words.{Words}
use Rattle.spec_text.specs.Command.{words_of_command}
use Rattle.spec_text.specs.declared.command.Command.{Command}
use Rattle.spec_text.specs.declared.command.Command.TheVariants.{Get, Insert, Remove, Exchange, Add, Put, Range, Keys, Empty, First, Last, Floor, Ceiling, Count}

-- its numbers have 64 bits, and at most 4096 pairs are asked for
abbrev pub CommandIsWithin : Command → Type 0
CommandIsWithin (Get key) = key < 2 ^ 64
CommandIsWithin (Insert key value) = (key < 2 ^ 64) × (value < 2 ^ 64)
CommandIsWithin (Remove key) = key < 2 ^ 64
CommandIsWithin (Exchange key old new) = (key < 2 ^ 64) × (old < 2 ^ 64) × FitsU64 new
CommandIsWithin (Add key more) = (key < 2 ^ 64) × (more < 2 ^ 64)
CommandIsWithin (Put key more) = (key < 2 ^ 64) × (more < 2 ^ 64)
CommandIsWithin (Range start end limit) = (start < 2 ^ 64) × (end < 2 ^ 64) × (limit ≤ 4096)
CommandIsWithin Keys = Unit {0}
CommandIsWithin Empty = Unit {0}
CommandIsWithin First = Unit {0}
CommandIsWithin Last = Unit {0}
CommandIsWithin (Floor key) = key < 2 ^ 64
CommandIsWithin (Ceiling key) = key < 2 ^ 64
CommandIsWithin Count = Unit {0}

-- the first word and those behind it are read as this command, or as none
abbrev pub ReadsCommand : List ℕ → Words → Option Command → Type 0
ReadsCommand name rest result =
    ReadsWords words_of_command CommandIsWithin (name ∷ words_left rest) result
