use Rattle.text_lines.proofs.GrammarLemmas.{spelled_once}
use Rattle.spec_text.specs.Entry.{words_of_entry, EntryFits}
use Rattle.text_schedule.specs.inner.EntryReading.{EntryIsWithin}
use Rattle.text_schedule.proofs.EntryLemmas.{entries}
use Rattle.text_schedule.proofs.laws.one_entry.Goals as goal

pub returns : goal.returns
returns c = spelled_once words_of_entry EntryIsWithin EntryFits entries
