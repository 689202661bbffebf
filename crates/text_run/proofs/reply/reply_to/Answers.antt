use Rattle.std.proofs.Common.{◌≡◌, None, refl}
use Rattle.spec_text.specs.Command.{words_of_command, CommandFits}
use Rattle.text_run.specs.inner.CommandReading.{CommandIsWithin}
use Rattle.text_lines.proofs.GrammarLemmas.{none_long}
use Rattle.text_run.proofs.CommandLemmas.{commands}
use Rattle.text_run.proofs.reply.reply_to.Goals as goal

pub returns-in-None : goal.returns-in-None
returns-in-None g c line held = record {
  done = None;
  answered = (none_long words_of_command CommandIsWithin CommandFits commands line (rw c.in-None.ensures at held), refl);
  legal = refl;
}

pub returns-in-Some : goal.returns-in-Some
returns-in-Some g c line held =
    let same : line ≡ c.in-Some.text.now = rw c.in-Some.ensures at held in
    rw same c.reply_to_text.ensures
