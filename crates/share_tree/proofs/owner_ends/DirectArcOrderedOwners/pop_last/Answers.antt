use Rattle.std.specs.Arc.{arc_value}
use Rattle.share_tree.proofs.Ends.{last_popped, without_last}
use Rattle.share_tree.proofs.owner_ends.DirectArcOrderedOwners.pop_last.Goals as goal

pub returns-clause-pair : goal.returns-clause-pair
returns-clause-pair g c =
    last_popped (λ x. arc_value x) c.take_last.result c.args.self.now.pairs c.take_last.ensures.pair

pub returns-clause-pairs : goal.returns-clause-pairs
returns-clause-pairs g c = without_last (λ x. arc_value x) c.args.self.now.pairs c.take_last.new.self.pairs c.take_last.ensures.pairs
