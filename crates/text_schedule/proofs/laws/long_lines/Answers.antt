use Rattle.text_lines.proofs.GrammarLemmas.{none_long}
use Rattle.spec_text.specs.Entry.{words_of_entry, EntryFits}
use Rattle.text_schedule.specs.inner.EntryReading.{EntryIsWithin}
use Rattle.text_schedule.proofs.EntryLemmas.{entries}
use Rattle.text_schedule.proofs.laws.long_lines.Goals as goal

pub returns : goal.returns
returns c = none_long words_of_entry EntryIsWithin EntryFits entries
