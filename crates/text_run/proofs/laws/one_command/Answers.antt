use Rattle.spec_text.specs.Command.{words_of_command, CommandFits}
use Rattle.text_run.specs.inner.CommandReading.{CommandIsWithin}
use Rattle.text_lines.proofs.GrammarLemmas.{spelled_once}
use Rattle.text_run.proofs.CommandLemmas.{commands}
use Rattle.text_run.proofs.laws.one_command.Goals as goal

pub returns : goal.returns
returns c = spelled_once words_of_command CommandIsWithin CommandFits commands
