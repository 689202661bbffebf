use Rattle.spec_text.specs.Command.{words_of_command, CommandFits}
use Rattle.text_run.specs.inner.CommandReading.{CommandIsWithin}
use Rattle.text_lines.proofs.GrammarLemmas.{none_long}
use Rattle.text_run.proofs.CommandLemmas.{commands}
use Rattle.text_run.proofs.laws.long_lines.Goals as goal

pub returns : goal.returns
returns c = none_long words_of_command CommandIsWithin CommandFits commands
