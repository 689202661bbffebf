use Rattle.std.proofs.Common.{◌≡◌, ◌-◌, ◌<◌, length, map}
use Rattle.tree_edit.proofs.EndLaws.{OnWay}
use Rattle.tree_links.specs.SeenTable.{name_of}
use Rattle.tree_edit.proofs.ends.seek_end.Given as goal

abbrev pub invariant-down : goal.invariant-down
invariant-down g l = OnWay l.side l.nodes.table (name_of l.root) l.above (name_of l.slot) (name_of l.parent) (map name_of l.trail) × (length l.trail ≡ 8) × (l.above < 8)

abbrev pub decreases-down : goal.decreases-down
decreases-down g l = 8 - l.above
