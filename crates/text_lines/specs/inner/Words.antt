-- A line as words.
use Rattle.std.specs.Prelude.{ℕ, List, [], Option, Some, None, ◌==◌}
use Rattle.std.specs.List.{slice_split}
use Rattle.std.specs.Option.{option_copied}
use Rattle.text_lines.specs.declared.words.Words.{Words}

-- the parts of a line between its spaces
abbrev pub words_of : List ℕ → List (List ℕ)
words_of line = slice_split (λ b. b == 32) line

abbrev pub words_in : Option (List ℕ) → List (List ℕ)
words_in None = []
words_in (Some line) = words_of line

-- the words that have not been read
abbrev pub words_left : Words → List (List ℕ)
words_left w = words_in (option_copied w.rest)
