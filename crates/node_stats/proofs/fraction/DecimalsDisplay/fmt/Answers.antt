use Rattle.std.proofs.Output.{has_written_of_eq}
use Rattle.node_stats.proofs.NumberTextLaws.{decimals_text}
use Rattle.node_stats.proofs.fraction.DecimalsDisplay.fmt.Goals as goal

pub returns-clause-writes : goal.returns-clause-writes
returns-clause-writes g c p ok =
    let h = rw c.laid_out.ensures at (c.write.ensures.writes p ok) in
    has_written_of_eq _ _ _ _ _ (decimals_text c.args.self.now.hundredths) h
