use Rattle.spec_text.specs.Command.{words_of_command, CommandFits}
use Rattle.text_lines.proofs.GrammarLemmas.{spelled_alike}
use Rattle.text_run.proofs.CommandLemmas.{commands}
use Rattle.text_run.proofs.laws.command_bounds.Goals as goal
use Rattle.text_run.specs.inner.CommandReading.{CommandIsWithin}

pub returns : goal.returns
returns c = spelled_alike words_of_command CommandIsWithin CommandFits commands
