use Rattle.std.proofs.Output.{has_written_of_eq}
use Rattle.node_stats.proofs.StatsTextLaws.{form_text_is}
use Rattle.node_stats.proofs.text.FormTextDisplay.fmt.Goals as goal

pub returns-clause-writes : goal.returns-clause-writes
returns-clause-writes g c p ok =
    let h = rw c.laid_out.ensures at (c.write.ensures.writes p ok) in
    has_written_of_eq _ _ _ _ _
    (form_text_is _ _ _ _ _ _ _ c.name-name.ensures c.node_count-nodes.ensures c.capacity.ensures c.entry_count.ensures c.hundredths.ensures.value) h
