use Rattle.spec_text.specs.Entry.{words_of_entry, EntryFits}
use Rattle.text_lines.proofs.GrammarLemmas.{spelled_alike}
use Rattle.text_schedule.proofs.EntryLemmas.{entries}
use Rattle.text_schedule.proofs.laws.entry_bounds.Goals as goal
use Rattle.text_schedule.specs.inner.EntryReading.{EntryIsWithin}

pub returns : goal.returns
returns c = spelled_alike words_of_entry EntryIsWithin EntryFits entries
