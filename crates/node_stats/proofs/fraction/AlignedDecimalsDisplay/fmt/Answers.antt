use Rattle.std.proofs.Output.{has_written_of_eq}
use Rattle.node_stats.proofs.NumberTextLaws.{aligned_text}
use Rattle.node_stats.proofs.fraction.AlignedDecimalsDisplay.fmt.Goals as goal

pub returns-clause-writes : goal.returns-clause-writes
returns-clause-writes g c p ok =
    let h = rw (c.laid_out.ensures, c.laid_out-2.ensures) at (c.write.ensures.writes p ok) in
    has_written_of_eq _ _ _ _ _ (aligned_text c.args.self.now.hundredths) h
