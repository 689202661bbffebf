use Rattle.std.proofs.Common.{◌≤◌, ◌-◌}
use Rattle.std.specs.Prelude.{vec_capacity}
use Rattle.boxcar.specs.Table.{Tagged}
use Rattle.word_segments.proofs.segments.row.Given as goal

abbrev pub invariant-loop-j : goal.invariant-loop-j
invariant-loop-j g l = (l.j ≤ l.count) × (l.count ≤ vec_capacity l.slots) × Tagged l.tag.numbers l.from l.j l.slots.items

abbrev pub decreases-loop-j : goal.decreases-loop-j
decreases-loop-j g l = l.count - l.j
