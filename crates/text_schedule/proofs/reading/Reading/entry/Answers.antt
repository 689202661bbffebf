use Rattle.spec_text.specs.Entry.{words_of_entry, EntryFits}
use Rattle.text_schedule.specs.inner.EntryReading.{EntryIsWithin}
use Rattle.text_schedule.proofs.EntryLemmas.{entries}
use Rattle.text_lines.proofs.GrammarLemmas.{none_long}
use Rattle.text_schedule.proofs.reading.Reading.entry.Goals as goal

pub returns-in_err-text-clause-bad : goal.returns-in_err-text-clause-bad
returns-in_err-text-clause-bad c line held =
    rw c.from_residual.ensures (none_long words_of_entry EntryIsWithin EntryFits entries line (rw c.in_err-text.ensures at held))
