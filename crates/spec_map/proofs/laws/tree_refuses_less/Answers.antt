use Rattle.spec_map.proofs.Runs.{run_of_tree}
use Rattle.spec_map.proofs.laws.tree_refuses_less.Goals as goal

pub returns : goal.returns
returns g c same m n operations legal = run_of_tree same m n operations legal
