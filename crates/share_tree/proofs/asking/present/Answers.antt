use Rattle.std.proofs.Common.{rules}
use Rattle.share_tree.proofs.asking.present.Goals as goal

pub returns-in-Some-clause-turns : goal.returns-in-Some-clause-turns
returns-in-Some-clause-turns g c = λ answer. let turns = c.replace.ensures.turns answer in search rules
