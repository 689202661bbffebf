-- What the words ask for, as a value.
use Rattle.std.specs.Prelude.{ℕ, List}
use Rattle.text_serve.specs.Serve.{AsksRun, AsksHelp, AsksSchedule}
use Rattle.text_serve.specs.declared.serve.Mode.{Mode}
use Rattle.text_serve.specs.declared.serve.Mode.TheVariants.{Run, Help, Schedule}

abbrev pub AsksMode : List (List ℕ) → Mode → Type 0
AsksMode words (Run limit stats) = AsksRun words limit stats
AsksMode words Help = AsksHelp words
AsksMode words (Schedule detail) = AsksSchedule words detail
