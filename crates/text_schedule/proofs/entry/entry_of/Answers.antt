use Rattle.std.proofs.Common.{◌≡◌, ◌∷◌, sym, ◌∙◌}
use Rattle.text_lines.specs.inner.Words.{words_of, words_left}
use Rattle.text_lines.proofs.GrammarLemmas.{spelled_from_reads, none_from_reads}
use Rattle.spec_text.specs.Entry.{words_of_entry, EntryFits}
use Rattle.text_schedule.specs.inner.EntryReading.{EntryIsWithin}
use Rattle.text_schedule.proofs.EntryLemmas.{entries}
use Rattle.text_schedule.proofs.entry.entry_of.Goals as goal
use Rattle.text_schedule.proofs.entry.entry_of.Goals.{In_ok-name}

-- the line's words are the name and what is left
cut : (c : In_ok-name) → words_of c.args.line.now ≡ c.in_ok-name.name.now ∷ words_left c.next_word.new.self
cut c = sym c.new-words.ensures ∙ c.in_ok-name.ensures

pub returns-clause-parsed : goal.returns-clause-parsed
returns-clause-parsed c =
    spelled_from_reads words_of_entry EntryIsWithin EntryFits entries _ _ (cut (goal.at.returns-clause-parsed c).In_ok-name) _ c.named.ensures

pub returns-clause-bad : goal.returns-clause-bad
returns-clause-bad c =
    none_from_reads words_of_entry EntryIsWithin EntryFits entries _ _ (cut (goal.at.returns-clause-bad c).In_ok-name) _ c.named.ensures
