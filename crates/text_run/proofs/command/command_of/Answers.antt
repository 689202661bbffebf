use Rattle.std.proofs.Common.{◌≡◌, ◌∷◌, sym, ◌∙◌}
use Rattle.text_lines.specs.inner.Words.{words_of, words_left}
use Rattle.spec_text.specs.Command.{words_of_command, CommandFits}
use Rattle.text_run.specs.inner.CommandReading.{CommandIsWithin}
use Rattle.text_lines.proofs.GrammarLemmas.{spelled_from_reads, none_from_reads}
use Rattle.text_run.proofs.CommandLemmas.{commands}
use Rattle.text_run.proofs.command.command_of.Goals as goal
use Rattle.text_run.proofs.command.command_of.Goals.{In_ok-name}

-- the line's words are the name and what is left
cut : (c : In_ok-name) → words_of c.args.line.now ≡ c.in_ok-name.name.now ∷ words_left c.next_word.new.self
cut c = sym c.new-words.ensures ∙ c.in_ok-name.ensures

pub returns-clause-parsed : goal.returns-clause-parsed
returns-clause-parsed c =
    spelled_from_reads words_of_command CommandIsWithin CommandFits commands _ _ (cut (goal.at.returns-clause-parsed c).In_ok-name) _ c.named.ensures

pub returns-clause-bad : goal.returns-clause-bad
returns-clause-bad c =
    none_from_reads words_of_command CommandIsWithin CommandFits commands _ _ (cut (goal.at.returns-clause-bad c).In_ok-name) _ c.named.ensures
