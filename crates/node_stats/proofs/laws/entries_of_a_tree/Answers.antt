use Rattle.node_stats.proofs.EntryLaws.{entries_counted}
use Rattle.node_stats.proofs.laws.entries_of_a_tree.Goals as goal

pub returns : goal.returns
returns g c s levels slot q tree = entries_counted s levels q slot tree
