use Rattle.std.proofs.Common.{◌-◌}
use Rattle.tree_path.specs.inner.Descent.{IsOnTheWay}
use Rattle.tree_links.specs.SeenTable.{links_of, name_of, seen_table}
use Rattle.tree_links.proofs.descent.seek_below.Given as goal

abbrev pub invariant-down : goal.invariant-down
invariant-down g l = IsOnTheWay (seen_table (links_of g.N.LinkedNode.node l.nodes.slots)) (name_of l.root) l.key l.above (name_of l.slot) (name_of l.parent) l.initial.reads l.reads

abbrev pub decreases-down : goal.decreases-down
decreases-down g l = 8 - l.above
