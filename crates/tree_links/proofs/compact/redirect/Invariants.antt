use Rattle.std.proofs.Common.{◌-◌}
use Rattle.tree_links.proofs.OverLaws.{Redirected}
use Rattle.tree_links.proofs.compact.redirect.Given as goal

abbrev pub invariant-links : goal.invariant-links
invariant-links g l = Redirected l.slots (g.N.LinkedNode.node l.initial.node) (g.N.LinkedNode.node l.node) l.from

abbrev pub decreases-links : goal.decreases-links
decreases-links g l = 256 - l.from
