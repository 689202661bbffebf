use Rattle.node_stats.proofs.TallyLaws.{tally_more}
use Rattle.node_stats.proofs.NodeStats.add_node.Goals as goal

pub returns-clause-sums : goal.returns-clause-sums
returns-clause-sums c nodes tally =
    tally_more nodes _ _ c.args.level c.args.form c.args.entries tally (rw (← c.in_ok-reach.ensures.ok) c.add_at.ensures)
